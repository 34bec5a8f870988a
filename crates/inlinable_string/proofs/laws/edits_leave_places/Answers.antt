use Rattle.inlinable_string.proofs.Text.{place_behind}
use Rattle.inlinable_string.proofs.laws.edits_leave_places.Goals as goal

pub returns-clause-behind : goal.returns-clause-behind
returns-clause-behind c t u v p s = place_behind s
