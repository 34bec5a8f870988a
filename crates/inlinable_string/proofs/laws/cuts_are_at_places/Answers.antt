use Rattle.std.proofs.Common.{[], append-nil}
use Rattle.inlinable_string.proofs.Cut.{cut_joined, cut_where_place}
use Rattle.inlinable_string.proofs.laws.cuts_are_at_places.Goals as goal

pub returns : goal.returns
returns c = record {
  places = cut_where_place;
  start = cut_joined [];
  end = λ t. rw append-nil at (cut_joined t []);
}
