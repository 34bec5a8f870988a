use Rattle.std.proofs.Common.{◌≡◌, ◌++◌, map}
use Rattle.word_index.specs.Index.{shown}
use Rattle.word_index.proofs.index.Index.ranked.Given as goal

-- the words so far, and those that are left, are all of them
abbrev pub invariant-loop-word : goal.invariant-loop-word
invariant-loop-word l = map shown l.ranked.items ++ l.word-iterator ≡ l.fn.self
