use Rattle.inlinable_string.proofs.Common.{arith}
use Rattle.inlinable_string.proofs.WellFormed.{read_whole}
use Rattle.inlinable_string.proofs.well_formed.read_block.Goals as goal

pub returns : goal.returns
returns c = read_whole _ _ 16 _ c.read.ensures (omega (arith, c.requires.len))
