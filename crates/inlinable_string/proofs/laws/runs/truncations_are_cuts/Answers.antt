use Rattle.inlinable_string.proofs.Places.{truncations_cut}
use Rattle.inlinable_string.proofs.laws.runs.truncations_are_cuts.Goals as goal

pub returns : goal.returns
returns c = truncations_cut
