use Rattle.std.proofs.Common.{◌≡◌, ℕ, List, [], ◌∷◌, refl, subst, arith}
use lib.Utf8.{encode}
use Rattle.inlinable_string.specs.Text.{size, IsCut}
use Rattle.inline_model.proofs.worked.places.places_of_one_character.Goals as goal

no_prefix : (a b : List ℕ) → IsCut (233 ∷ []) 1 a b → ⊥
unfolding encode
no_prefix [] b h = omega (arith, h.before)
no_prefix (x ∷ a) b h =
    let is : x ≡ 233 = cc in
    let two : size (233 ∷ a) ≡ 1 = subst (λ y. size (y ∷ a) ≡ 1) is h.before in omega (arith, two)

pub returns-clause-inside : goal.returns-clause-inside
returns-clause-inside c = λ at. no_prefix at.0 at.1 at.2

pub returns-clause-end : goal.returns-clause-end
unfolding encode
returns-clause-end c = (233 ∷ [], [], record { joined = refl; before = refl })
