use Rattle.inlinable_string.proofs.WellFormed.{read_one}
use Rattle.inlinable_string.proofs.well_formed.read.Goals as goal

pub loop-byte-preserved : goal.loop-byte-preserved
loop-byte-preserved c =
    read_one _ c.args.bytes.now c.loop-byte.byte-index c.loop-byte.state _ c.loop-byte.invariant
    c.loop-byte-test.true (c.type_inv.bytes c.loop-byte.byte-index).fits c.row_of.ensures
