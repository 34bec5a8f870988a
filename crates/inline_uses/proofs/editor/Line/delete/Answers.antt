use Rattle.std.proofs.Common.{◌≡◌, refl, arith}
use Rattle.inlinable_string.specs.Text.{size}
use Rattle.inline_uses.proofs.editor.Line.delete.Goals as goal

pub returns-else-self-len-clause-taken : goal.returns-else-self-len-clause-taken
returns-else-self-len-clause-taken g c =
    let t = c.self.inside.text in
    let p = c.self.inside.cursor in
    let place = (c.cuts_are_at_places.ensures.places t p).0 c.self.invariant in
    let end : p ≡ size t = omega (
      arith,
      c.places_are_boundaries.ensures.within t p place,
      c.if-self-len.false,
      c.len.ensures.value,
    ) in
    rw (← c.self.view_is, end, c.cuts_are_at_places.ensures.end t) (refl, refl)
