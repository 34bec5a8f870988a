-- The bytes so far are those of the pairs so far.
use Rattle.script_language.proofs.HexTexts.{AreBytesTo}
use Rattle.script_language.proofs.line.bytes_from_digits.Given as goal

abbrev pub invariant-loop-index : goal.invariant-loop-index
invariant-loop-index l = AreBytesTo l.pairs l.bytes l.index
