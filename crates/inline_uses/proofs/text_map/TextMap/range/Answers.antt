use Rattle.inline_uses.proofs.Names.{arith, by_number, length-drop, length-take}
use Rattle.inline_uses.proofs.Mapped.{items_seen}
use Rattle.inline_uses.proofs.Places.{between}
use Rattle.inline_uses.proofs.text_map.TextMap.range.Goals as goal

pub returns-clause-between : goal.returns-clause-between
returns-clause-between g c =
    let start = c.place_from-start.ensures in
    let end = c.place_from-end.ensures in
    rw (c.new.ensures, ← c.self.view_is) (between (by_number c.self.inside) c.self.inside.order
    c.self.invariant c.args.from.now c.args.to.now _ _
    (record { below = start.below; above = start.above })
    (record { below = end.below; above = end.above }))

pub returns-clause-fits : goal.returns-clause-fits
returns-clause-fits g c =
    let count = items_seen c.self.inside.entries.items c.self.inside.order c.self.invariant in
    rw (c.new.ensures, length-take, length-drop)
    (omega (arith, count, c.self.inside.entries.ok, c.self.inside.entries.small))
