use Rattle.inline_uses.proofs.Names.{flat_map, ids_of, take, ◌++◌, ◌≡◌}
use Rattle.inline_uses.proofs.index.Index.ids.Given as goal

-- the ids of the runs so far are there
abbrev pub invariant-loop-run : goal.invariant-loop-run
invariant-loop-run l =
    l.ids.items ≡ ids_of l.self.first ++ flat_map ids_of (take l.run-index l.run-items)
