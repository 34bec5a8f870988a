use Rattle.inline_uses.proofs.text_map.TextMap.reserve.Goals as goal

pub invariant_of-self : goal.invariant_of-self
invariant_of-self g c = rw c.reserve.ensures.items c.self.invariant

pub invariant_of-self-2 : goal.invariant_of-self-2
invariant_of-self-2 g c = rw (c.reserve.ensures.items, c.reserve-2.ensures.ids)
    (c.self.invariant.0, c.reserve-2.ensures.index _ c.self.invariant.1)
