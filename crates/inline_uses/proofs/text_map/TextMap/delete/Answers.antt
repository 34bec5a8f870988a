use Rattle.inline_uses.proofs.Names.{by_number, index_of, sym}
use Rattle.inline_uses.proofs.Deleted.{IsAtIndex, entries_left, mapped_left, others_left, value_left}
use Rattle.inline_uses.proofs.Mapped.{missing}
use Rattle.inline_uses.proofs.text_map.TextMap.delete.Given.{Over}
use Rattle.inline_uses.proofs.text_map.TextMap.delete.Goals.{After-id-id}
use Rattle.inline_uses.proofs.text_map.TextMap.delete.Goals as goal

pub returns-in_default : goal.returns-in_default
returns-in_default g c =
    let none = missing (by_number c.self.inside) c.self.inside.order c.self.invariant
    c.args.key.now _ c.in_default.ensures.gap in
    record { left = rw (← c.self.view_is) (sym none.1); value = rw (← c.self.view_is) (sym none.0) }

found : (g : Over) → (c : After-id-id g) → IsAtIndex c.self.inside.entries.items
    c.self.inside.order c.args.key.now (index_of c.self.inside.order c.in-Ok.spot) c.id-id.result
found g c =
    record { mapped = c.self.invariant; text = c.in-Ok.ensures.found; number = c.id-id.ensures }

pub rename_last-requires-clause-others : goal.rename_last-requires-clause-others
rename_last-requires-clause-others g c = others_left
    (found g (goal.at.rename_last-requires-clause-others g c).After-id-id) c.remove.new.self
    c.remove.ensures.ids

pub invariant_of-self : goal.invariant_of-self
invariant_of-self g c = rw c.swap_remove-value.ensures.items (mapped_left
    (found g (goal.at.invariant_of-self g c).After-id-id) _ _ _ c.rename_last.ensures)

pub returns-clause-left : goal.returns-clause-left
returns-clause-left g c = rw (← c.self.view_is, c.swap_remove-value.ensures.items) (entries_left
    (found g (goal.at.returns-clause-left g c).After-id-id) _ _ _ c.rename_last.ensures
    c.remove.ensures.ids)

pub returns-clause-value : goal.returns-clause-value
returns-clause-value g c = rw (← c.self.view_is) (value_left
    (found g (goal.at.returns-clause-value g c).After-id-id) c.swap_remove-value.ensures.value)
