use Rattle.std.proofs.Common.{refl, arith, codes, rules}
use Rattle.script_language.specs.Line.{IsNumberText}
use Rattle.script_language.proofs.WorkedLines.{number_text}
use Rattle.script_language.proofs.worked.lines.lines_of_a_number.Goals as goal

pub returns-clause-reserve_exact : goal.returns-clause-reserve_exact
returns-clause-reserve_exact c =
    let zeros = codes "00000000000000000012" in
    let twelve : IsNumberText zeros 12 =
    number_text _ 12 (search rules) (omega arith) refl (omega arith) in
    (_, refl, (zeros, refl, twelve))
