use Rattle.std.proofs.Common.{refl, arith, codes, rules}
use Rattle.script_language.specs.Line.{IsNumberText}
use Rattle.script_language.proofs.WorkedLines.{number_text}
use Rattle.script_language.proofs.worked.lines.lines_of_a_text.Goals as goal

pub returns-clause-insert_str : goal.returns-clause-insert_str
returns-clause-insert_str c =
    let seven : IsNumberText (codes "7") 7 =
    number_text _ 7 (search rules) (omega arith) refl (omega arith) in
    rw c.requires.string (_, refl, (codes "7", refl, seven))
