use Rattle.inlinable_string.proofs.Edits.{remove_removes}
use Rattle.inlinable_string.proofs.laws.runs.remove_is_a_removal.Goals as goal

pub returns : goal.returns
returns c = remove_removes
