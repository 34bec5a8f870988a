use Rattle.inline_uses.proofs.Names.{Some, ap, slice_get, sym, unsigned_Decides, ◌∙◌, ◌≡◌}
use Rattle.inline_uses.proofs.symbols.have_same_id.Goals as goal

pub returns-in-Some-Some : goal.returns-in-Some-Some
returns-in-Some-Some c =
    let first = c.in-Some-Some.first in
    let second = c.in-Some-Some.second in
    let one = (c.find.ensures first).0 c.in-Some-Some.is-0 in
    let other = (c.find-2.ensures second).0 c.in-Some-Some.is-1 in (
      (λ same. let e : first ≡ second = (unsigned_Decides first second).0 same in
          (cc, (first, one))),
      λ (same, (id, is)).
          let e = (c.find.ensures id).1 is in
          let f = (c.find-2.ensures id).1 (is ∙ ap Some same) in
          (unsigned_Decides first second).1 (cc (c.in-Some-Some.is-0, c.in-Some-Some.is-1)),
    )
