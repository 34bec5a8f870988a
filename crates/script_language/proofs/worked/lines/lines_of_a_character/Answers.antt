use Rattle.std.proofs.Common.{refl, arith, codes, rules}
use lib.Utf8.{encode}
use Rattle.script_language.proofs.WorkedLines.{number_text}
use Rattle.script_language.proofs.worked.lines.lines_of_a_character.Goals as goal

pub returns-clause-euro : goal.returns-clause-euro
unfolding encode
returns-clause-euro c = (_, refl, (_, refl, record { scalar = refl; encoded = refl }))

pub returns-clause-insert : goal.returns-clause-insert
unfolding encode
returns-clause-insert c =
    let twelve = number_text (codes "12") 12 (search rules) (omega arith) refl (omega arith) in
    (_, refl, (codes "12", codes "!", refl, twelve, record { scalar = refl; encoded = refl }))
