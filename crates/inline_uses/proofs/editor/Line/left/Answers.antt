use Rattle.std.proofs.Common.{rules, refl}
use Rattle.inline_uses.proofs.Cursor.{stepped_left}
use Rattle.inline_uses.proofs.editor.Line.left.Goals as goal

pub invariant_of-self : goal.invariant_of-self
invariant_of-self g c =
    let moved = stepped_left (c.cut_decides_places.ensures.place _) c.sizes_of_parts.ensures.string
    c.cuts_are_cuts_of_bytes.ensures _ c.in_ok-passed.passed c.self.invariant c.as_str.utf8
    c.as_str.ensures.value c.range.utf8 c.as_str-2.utf8
    c.steps_are_over_characters.ensures.back c.range.ensures.value (search rules) in
    rw moved.1 refl

pub returns : goal.returns
returns g c =
    let moved = stepped_left (c.cut_decides_places.ensures.place _) c.sizes_of_parts.ensures.string
    c.cuts_are_cuts_of_bytes.ensures _ c.in_ok-passed.passed c.self.invariant c.as_str.utf8
    c.as_str.ensures.value c.range.utf8 c.as_str-2.utf8
    c.steps_are_over_characters.ensures.back c.range.ensures.value (search rules) in
    record {
      passed = rw (← c.self.view_is, moved.1) moved.0;
      behind = rw (← c.self.view_is, moved.1) refl;
    }
