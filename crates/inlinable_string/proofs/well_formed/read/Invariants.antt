use Rattle.inlinable_string.specs.WellFormed.{state_of}
use Rattle.inlinable_string.proofs.WellFormed.{IsRead}
use Rattle.inlinable_string.proofs.well_formed.read.Given as goal

abbrev pub invariant-loop-byte : goal.invariant-loop-byte
invariant-loop-byte l = IsRead (state_of l.fn.bits) l.bytes l.byte-index (state_of l.state)
