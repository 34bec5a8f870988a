use Rattle.inline_uses.proofs.Names.{map, take, ◌++◌, ◌≡◌}
use Rattle.inline_uses.proofs.index.run.Run.append_to.Given as goal

-- the ids of the marks so far are there
abbrev pub invariant-loop-mark : goal.invariant-loop-mark
invariant-loop-mark l =
    l.ids.items ≡ l.fn.ids.items ++ map (λ m. m.id) (take l.mark-index l.mark-items)
