use Rattle.std.proofs.Common.{length}
use Rattle.inlinable_string.specs.WellFormed.{state_of}
use Rattle.inlinable_string.proofs.WellFormed.{IsReadTo}
use Rattle.inlinable_string.proofs.well_formed.is_utf8.Given as goal

abbrev pub invariant-loop-front : goal.invariant-loop-front
invariant-loop-front l = IsReadTo l.bytes l.front 0

abbrev pub decreases-loop-front : goal.decreases-loop-front
decreases-loop-front l = length l.front

abbrev pub invariant-loop-rest : goal.invariant-loop-rest
invariant-loop-rest l = IsReadTo l.bytes l.rest (state_of l.bits)

abbrev pub decreases-loop-rest : goal.decreases-loop-rest
decreases-loop-rest l = length l.rest
