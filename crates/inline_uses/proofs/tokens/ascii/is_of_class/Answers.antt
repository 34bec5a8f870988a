use Rattle.std.proofs.Common.{refl, arith}
use Rattle.std.proofs.UnicodeAscii.{unicode_tables}
use Rattle.inline_uses.specs.declared.tokens.Kind.TheVariants.{Space, Word, Number, LineComment, BlockComment, Text, Mark}
use Rattle.inline_uses.proofs.Ascii.{from_table}
use Rattle.inline_uses.proofs.tokens.ascii.is_of_class.Goals as goal

-- the table says of each byte what the definition does
pub returns : goal.returns
unfolding unicode_tables
returns c Space other is = from_table Space _ c.args.byte is (omega arith) refl
returns c Word other is = from_table Word _ c.args.byte is (omega arith) refl
returns c Number other is = from_table Number _ c.args.byte is (omega arith) refl
returns c LineComment other is = absurd (other refl)
returns c BlockComment other is = from_table BlockComment _ c.args.byte is (omega arith) refl
returns c Text other is = from_table Text _ c.args.byte is (omega arith) refl
returns c (Mark m) other is = from_table (Mark m) _ c.args.byte is (omega arith) refl
