use Rattle.std.proofs.Common.{◌≡◌, ◌++◌, map}
use Rattle.inline_uses.specs.Store.{entry_of}
use Rattle.inline_uses.specs.TextMap.{texts_of}
use Rattle.inline_uses.proofs.store.Store.from_map.Given as goal

-- the entries so far, and the texts of those that are left, are all of them
abbrev pub invariant-loop-key : goal.invariant-loop-key
invariant-loop-key l = map entry_of l.entries ++ texts_of l.key-iterator ≡ texts_of l.fn.map
