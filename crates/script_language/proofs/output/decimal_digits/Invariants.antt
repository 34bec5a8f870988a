-- The digits of the rest, and those that are written, are the number's.
use Rattle.std.proofs.Common.{◌≡◌, length}
use Rattle.script_language.proofs.Decimals.{AreDigitsFrom}
use Rattle.script_language.proofs.output.decimal_digits.Given as goal

abbrev pub invariant-loop-rest : goal.invariant-loop-rest
invariant-loop-rest l = (length l.room ≡ 20) × AreDigitsFrom l.room l.number l.rest l.start

abbrev pub decreases-loop-rest : goal.decreases-loop-rest
decreases-loop-rest l = l.rest
