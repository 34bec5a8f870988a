use Rattle.std.proofs.Common.{[], ◌∷◌, refl, rules}
use lib.Utf8.{encode}
use Rattle.inline_model.proofs.worked.places.splice_of_one_character.Goals as goal

pub returns : goal.returns
unfolding encode
returns c = record {
  met = record { front = 233 ∷ []; back = []; cut = search rules; joined = refl };
}
