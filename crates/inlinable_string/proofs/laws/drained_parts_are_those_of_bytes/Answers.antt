use Rattle.inlinable_string.proofs.Ranges.{drained-bytes}
use Rattle.inlinable_string.proofs.laws.drained_parts_are_those_of_bytes.Goals as goal

pub returns : goal.returns
returns c = record {
  part = λ t u v p q d. (drained-bytes d).0;
  left = λ t u v p q d. (drained-bytes d).1;
}
