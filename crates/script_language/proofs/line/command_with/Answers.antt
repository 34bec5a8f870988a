use Rattle.std.proofs.Common.{sym, ◌∙◌, codes}
use Rattle.script_language.proofs.Lines.{no_character_behind}
use Rattle.script_language.proofs.Words.{form_of_word}
use Rattle.script_language.specs.Line.{arguments_of}
use Rattle.script_language.proofs.line.command_with.Goals as goal

pub returns-in_err-char_of-in-insert-clause-none :
    goal.returns-in_err-char_of-in-insert-clause-none
returns-in_err-char_of-in-insert-clause-none c =
    let (digits, parts, number) = c.in_ok-place-in-insert.ensures.some in
    rw c.from_residual-in_err-char_of-in-insert.ensures (λ not command tail same.
    no_character_behind _ digits _ _ parts number c.in_err-char_of-in-insert.ensures.none
    (arguments_of command) (form_of_word (codes "insert") command (sym c.in-insert.is ∙ same)) tail)
