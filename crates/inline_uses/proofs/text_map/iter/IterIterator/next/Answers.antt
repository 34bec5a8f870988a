use Rattle.inline_uses.proofs.Names.{ap, arith, entries_in, entry_of, length, map, sym, ◌∙◌, ◌∷◌, ◌≡◌}
use Rattle.inline_uses.proofs.Places.{next_entry}
use Rattle.inline_uses.proofs.text_map.iter.IterIterator.next.Given.{Over}
use Rattle.inline_uses.proofs.text_map.iter.IterIterator.next.Goals.{After-index-entry}
use Rattle.inline_uses.proofs.text_map.iter.IterIterator.next.Goals as goal

-- the entry comes first, and then those that are left
steps : (g : Over) → (c : After-index-entry g) → c.args.self.now
    ≡ entry_of c.index-entry.result.now ∷ entries_in (map entry_of c.self.inside.entries.now.items)
    c.self.inside.order.now c.after-self-inside.result c.self.inside.end
steps g c = sym c.self.view_is ∙ next_entry c.self.inside.entries.now.items c.index-entry.result.now
    c.id.result c.self.inside.order.now c.in_ok-spot.spot c.self.invariant.0.0 c.id.ensures
    c.index-entry.ensures c.self.inside.next c.after-self-inside.result c.self.inside.end
    c.in_ok-spot.ensures.same c.in_ok-spot.ensures.before c.after-self-inside.ensures.at

pub returns-clause-steps : goal.returns-clause-steps
returns-clause-steps = steps

pub returns-clause-goes : goal.returns-clause-goes
returns-clause-goes g c = record {
  on = λ _. (tt, tt, omega (arith, ap length (steps g c)));
  keeps = tt;
  rests = λ _. tt;
}
