use Rattle.std.proofs.Common.{sym, ap, ◌∙◌, ◌∷◌, length, arith, length-append}
use Rattle.script_language.proofs.BadLines.{not_before}
use Rattle.script_language.proofs.laws.one_line_is_the_first_bad_one.Goals as goal

pub returns-clause-one : goal.returns-clause-one
returns-clause-one c lines number other bad as_well =
    let no_later = not_before bad.before as_well.before bad.line as_well.line bad.behind
    as_well.behind
    as_well.commands (sym bad.split ∙ as_well.split) as_well.accepted bad.has_bytes bad.rejected in
    let no_sooner = not_before as_well.before bad.before as_well.line bad.line as_well.behind
    bad.behind
    bad.commands (sym as_well.split ∙ bad.split) bad.accepted as_well.has_bytes as_well.rejected in
    omega (arith, no_later, no_sooner, bad.counted, as_well.counted)

pub returns-clause-counted : goal.returns-clause-counted
returns-clause-counted c lines number bad =
    let all = ap length bad.split ∙ length-append bad.before (bad.line ∷ bad.behind) in
    (omega (arith, bad.counted), omega (arith, bad.counted, all))
