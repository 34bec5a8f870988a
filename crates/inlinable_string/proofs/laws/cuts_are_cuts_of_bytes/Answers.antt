use Rattle.inlinable_string.proofs.Cut.{cut_of_bytes}
use Rattle.inlinable_string.proofs.laws.cuts_are_cuts_of_bytes.Goals as goal

pub returns : goal.returns
returns c t bs a b p at u e = cut_of_bytes t bs u e a b p at
