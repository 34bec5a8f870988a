use Rattle.inlinable_string.proofs.Makers.{utf8_made}
use Rattle.inlinable_string.proofs.inlinable_string.makers.InlinableStringNStringMake.from_utf8.Goals as goal

pub returns-clause-well_formed : goal.returns-clause-well_formed
returns-clause-well_formed g c = utf8_made c.in_ok-heap.heap c.args.vec c.in_ok-heap.ensures.ok
