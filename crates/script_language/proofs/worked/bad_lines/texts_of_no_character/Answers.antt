use Rattle.std.proofs.Common.{arith, ap, length, slice_index}
use lib.Utf8.{encode}
use Rattle.std.specs.Str.{chars}
use Rattle.script_language.proofs.OneCommand.{one_character}
use Rattle.script_language.proofs.worked.bad_lines.texts_of_no_character.Goals as goal

pub returns-clause-two : goal.returns-clause-two
unfolding chars
returns-clause-two c x char =
    absurd (omega (arith, ap length (one_character _ x char)))

pub returns-clause-other : goal.returns-clause-other
unfolding encode
returns-clause-other c char = absurd (omega (arith, ap (λ l. slice_index l 0) char.encoded))
