use Rattle.inlinable_string.proofs.Common.{refl, size}
use Rattle.inlinable_string.proofs.Text.{splice_at_start, splice_at_end}
use Rattle.inlinable_string.proofs.laws.splices_at_the_ends.Goals as goal

pub returns : goal.returns
returns c = record { start = splice_at_start; end = λ t u v. splice_at_end t u v (size t) refl }
