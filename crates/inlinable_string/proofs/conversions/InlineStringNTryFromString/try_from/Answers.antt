use Rattle.inlinable_string.proofs.Common.{refl, arith}
use Rattle.inlinable_string.proofs.Text.{size-string}
use Rattle.inlinable_string.proofs.conversions.InlineStringNTryFromString.try_from.Goals as goal

pub returns-then-len : goal.returns-then-len
returns-then-len g c = (refl, omega (arith, size-string c.args.string))
