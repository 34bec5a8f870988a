use Rattle.std.proofs.Common.{refl, ap, ◌∙◌, ◌∷◌, ◌++◌}
use Rattle.script_language.specs.Line.{space}
use Rattle.script_language.proofs.Lines.{line_with_word}
use Rattle.script_language.proofs.line.command_of.Goals as goal

pub returns-in_err-command_with-in_default-clause-none :
    goal.returns-in_err-command_with-in_default-clause-none
returns-in_err-command_with-in_default-clause-none c =
    rw c.from_residual-in_err-command_with-in_default.ensures (λ command asked.
    let parts = line_with_word _ _ _ command c.in-Some.ensures.some asked in
    c.in_err-command_with-in_default.ensures.none c.in_default.not-replace_bytes command
    parts.1 parts.0)

pub returns-in_ok-bytes-in-replace_bytes-clause-some :
    goal.returns-in_ok-bytes-in-replace_bytes-clause-some
returns-in_ok-bytes-in-replace_bytes-clause-some c =
    let rest = c.in-Some.rest.now in
    let word = ap (λ w. w ++ space ∷ rest) c.in-replace_bytes.is in
    let bytes = c.in_ok-bytes-in-replace_bytes.ensures.some in
    (space ∷ rest, c.in-Some.ensures.some.joined ∙ word, (rest, refl, bytes))
