use Rattle.std.proofs.Common.{◌≡◌, ℕ, List}
use Rattle.std.specs.Str.Iter.{split_whitespace_rest}
use Rattle.word_index.specs.Index.{AreWords, with_words}
use Rattle.word_index.proofs.index.Index.add_line.Given as goal

-- with the words of what is left, the entries are those of all the line's words
abbrev pub invariant-loop-word : goal.invariant-loop-word
invariant-loop-word l =
    (words : List (List ℕ)) → AreWords (split_whitespace_rest l.word-iterator) words
    → ((all : List (List ℕ)) × AreWords l.line all
    × (with_words l.self words l.number ≡ with_words l.fn.self all l.number))
