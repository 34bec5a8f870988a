use Rattle.std.proofs.Common.{rules, refl}
use Rattle.inline_uses.proofs.Cursor.{stepped_right}
use Rattle.inline_uses.proofs.editor.Line.right.Goals as goal

pub invariant_of-self : goal.invariant_of-self
invariant_of-self g c =
    let moved = stepped_right (c.cut_decides_places.ensures.place _) c.sizes_of_parts.ensures.string
    c.cuts_are_cuts_of_bytes.ensures _ c.in_ok-passed.passed c.self.invariant c.as_str.utf8
    c.as_str.ensures.value c.range_from.utf8 c.as_str-2.utf8 c.sizes_of_parts.ensures.joined
    (search rules) (search rules) in
    rw (c.len.ensures.value, moved.1) refl

pub returns : goal.returns
returns g c =
    let moved = stepped_right (c.cut_decides_places.ensures.place _) c.sizes_of_parts.ensures.string
    c.cuts_are_cuts_of_bytes.ensures _ c.in_ok-passed.passed c.self.invariant c.as_str.utf8
    c.as_str.ensures.value c.range_from.utf8 c.as_str-2.utf8 c.sizes_of_parts.ensures.joined
    (search rules) (search rules) in
    record {
      passed = rw (← c.self.view_is, c.len.ensures.value, moved.1) moved.0;
      before = rw (← c.self.view_is, c.len.ensures.value, moved.1) refl;
    }
