use Rattle.inline_uses.proofs.Names.{[], arith, entries_in, entry_of, length-append, map, sym, ◌++◌, ◌∙◌, ◌∷◌, ◌≡◌}
use Rattle.inline_uses.proofs.Places.{last_entry}
use Rattle.inline_uses.proofs.text_map.iter.IterDoubleEndedIterator.next_back.Given.{Over}
use Rattle.inline_uses.proofs.text_map.iter.IterDoubleEndedIterator.next_back.Goals.{After-index-entry}
use Rattle.inline_uses.proofs.text_map.iter.IterDoubleEndedIterator.next_back.Goals as goal

-- the entry comes last, after those that are left
steps : (g : Over) → (c : After-index-entry g) → c.args.self.now
    ≡ entries_in (map entry_of c.self.inside.entries.now.items) c.self.inside.order.now
    c.self.inside.next c.in_ok-spot.spot ++ entry_of c.index-entry.result.now ∷ []
steps g c = sym c.self.view_is ∙ last_entry c.self.inside.entries.now.items c.index-entry.result.now
    c.id.result c.self.inside.order.now c.in_ok-spot.spot c.self.invariant.0.0 c.id.ensures
    c.index-entry.ensures c.self.inside.next c.self.inside.end c.in_ok-spot.ensures.same
    c.in_ok-spot.ensures.after

pub returns-clause-steps : goal.returns-clause-steps
returns-clause-steps = steps

pub returns-clause-goes : goal.returns-clause-goes
returns-clause-goes g c = record {
  on = λ _. (tt, tt, rw (steps g c, length-append) (omega arith));
  keeps = tt;
  rests = λ _. tt;
}
