use Rattle.std.proofs.Common.{[], ◌∷◌, refl, rules}
use lib.Utf8.{encode}
use Rattle.inline_model.proofs.worked.places.removal_of_one_character.Goals as goal

pub returns-clause-met : goal.returns-clause-met
unfolding encode
returns-clause-met c = record { front = 233 ∷ []; back = []; cut = search rules; joined = refl }
