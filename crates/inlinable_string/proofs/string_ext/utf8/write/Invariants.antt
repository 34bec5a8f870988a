use Rattle.std.proofs.Common.{length}
use Rattle.inlinable_string.proofs.LossyText.{Written}
use Rattle.inlinable_string.proofs.string_ext.utf8.write.Given as goal

abbrev pub invariant-loop-rest : goal.invariant-loop-rest
invariant-loop-rest l = Written l.bytes l.rest l.made l.end

abbrev pub decreases-loop-rest : goal.decreases-loop-rest
decreases-loop-rest l = length l.rest

abbrev pub invariant-loop-rest-2 : goal.invariant-loop-rest-2
invariant-loop-rest-2 l = Written l.bytes l.rest l.made l.end

abbrev pub decreases-loop-rest-2 : goal.decreases-loop-rest-2
decreases-loop-rest-2 l = length l.rest
