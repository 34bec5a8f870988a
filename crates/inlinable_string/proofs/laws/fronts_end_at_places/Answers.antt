use Rattle.inlinable_string.proofs.Cut.{place_of_taken, place_of_split}
use Rattle.inlinable_string.proofs.laws.fronts_end_at_places.Goals as goal

pub returns : goal.returns
returns c = record {
  taken = λ t bs xs n u e v h _. place_of_taken t bs u e xs n v h;
  split = λ t bs xs ys n u e. place_of_split t bs u e xs ys n;
}
