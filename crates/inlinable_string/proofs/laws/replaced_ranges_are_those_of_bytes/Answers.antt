use Rattle.inlinable_string.proofs.Ranges.{bytes-replaced, range_from_splice, splice_from_range, whole-replaced}
use Rattle.inlinable_string.proofs.laws.replaced_ranges_are_those_of_bytes.Goals as goal

pub returns : goal.returns
returns c = record {
  bytes = λ t u v p q. bytes-replaced;
  inserted = λ t u v p. (splice_from_range, range_from_splice);
  whole = λ t u v. whole-replaced;
}
