use Rattle.inlinable_string.proofs.Common.{IfOk-weaker}
use Rattle.inlinable_string.proofs.Makers as makers
use Rattle.inlinable_string.proofs.string_ext.std_string.StringStringMake.from_utf8.Goals as goal

pub returns-clause-text : goal.returns-clause-text
returns-clause-text c =
    IfOk-weaker c.string_from.result _ _
    (λ made e. makers.bytes_made made c.args.vec e) c.string_from.ensures.ok

pub returns-clause-well_formed : goal.returns-clause-well_formed
returns-clause-well_formed c =
    makers.well_formed c.string_from.result c.args.vec c.string_from.ensures.ok
    c.string_from.ensures.succeeds
