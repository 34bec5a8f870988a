use Rattle.std.proofs.Common.{refl}
use Rattle.inline_uses.proofs.Cursor.{typed}
use Rattle.inline_uses.proofs.editor.Line.type_char.Goals as goal

pub returns-in-Ok-clause-before : goal.returns-in-Ok-clause-before
returns-in-Ok-clause-before g c =
    let moved = typed c.cut_decides_places.ensures.place c.sizes_of_parts.ensures.joined _ _ _ _ _
    c.in-Ok.ensures.ok c.len_utf8.ensures.len in
    λ _. rw (← c.self.view_is, moved) refl

pub returns-in-Ok-clause-behind : goal.returns-in-Ok-clause-behind
returns-in-Ok-clause-behind g c =
    let moved = typed c.cut_decides_places.ensures.place c.sizes_of_parts.ensures.joined _ _ _ _ _
    c.in-Ok.ensures.ok c.len_utf8.ensures.len in
    rw (← c.self.view_is, moved) refl
