use Rattle.std.proofs.Common.{◌∷◌, refl}
use Rattle.std.proofs.lemmas.List.{append_assoc}
use Rattle.inline_uses.proofs.editor.keys_are_commands.Goals as goal

pub returns-clause-type_char : goal.returns-clause-type_char
returns-clause-type_char c before behind ch =
    rw (c.parts_are_told_by_their_size.ensures before behind, append_assoc) refl

pub returns-clause-delete : goal.returns-clause-delete
returns-clause-delete c before behind ch =
    rw (c.parts_are_told_by_their_size.ensures before (ch ∷ behind)) refl

pub returns-clause-backspace : goal.returns-clause-backspace
returns-clause-backspace c before behind ch =
    rw (append_assoc, c.parts_are_told_by_their_size.ensures before (ch ∷ behind)) refl

pub returns-clause-kill_to_end : goal.returns-clause-kill_to_end
returns-clause-kill_to_end c before behind =
    rw (c.parts_are_told_by_their_size.ensures before behind) refl
