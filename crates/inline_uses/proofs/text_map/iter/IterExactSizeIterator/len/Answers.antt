use Rattle.inline_uses.proofs.Names.{arith, entry_of, ids_in, length-drop, length-take, map}
use Rattle.inline_uses.proofs.Numbered.{count}
use Rattle.inline_uses.proofs.Places.{within_all}
use Rattle.inline_uses.proofs.text_map.iter.IterExactSizeIterator.len.Goals as goal

pub returns : goal.returns
returns g c =
    let order = c.self.inside.order.now in
    let all = count (map entry_of c.self.inside.entries.now.items) (ids_in order)
    c.self.invariant.0.0.within in
    let within = within_all order c.self.inside.end c.self.invariant.2 in
    rw (← c.self.view_is, length-take, length-drop)
    (omega (arith, all, within, c.count_between.ensures))
