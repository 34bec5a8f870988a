-- What is found by its index in a list with more at its end.
use Rattle.inline_uses.proofs.Names.{All-get_or, Bool, HaveOneId, List, Option, Some, [], ap, cond, false, get_or_from_slice_get, inl, inr, length, refl, slice_get, slice_get_within, subst, suc, sym, true, zero, ℕ, ◌++◌, ◌↔◌, ◌∙◌, ◌∷◌, ◌≡◌, ◌⊎◌}
use Rattle.std.proofs.Common.{All, Decides}
use Rattle.std.proofs.lemmas.List.Elements.{All-nil}

pub before_append : {X : Type 0} (xs ys : List X) (i : ℕ) (x : X) → slice_get xs i ≡ Some x
    → slice_get (xs ++ ys) i ≡ Some x
before_append [] ys i x is = cc
before_append (z ∷ xs) ys zero x is = is
before_append (z ∷ xs) ys (suc i) x is = before_append xs ys i x is

pub at_seam : {X : Type 0} (xs : List X) (y : X) (ys : List X)
    → slice_get (xs ++ y ∷ ys) (length xs) ≡ Some y
at_seam [] y ys = refl
at_seam (x ∷ xs) y ys = at_seam xs y ys

pub at_push : {X : Type 0} (xs : List X) (y : X) → slice_get (xs ++ y ∷ []) (length xs) ≡ Some y
at_push xs y = at_seam xs y []

-- one that is not among those after the seam
pub from_seam : {X : Type 0} (P : X → Type 0) (xs : List X) (y : X) (ys : List X) (i : ℕ) (x : X)
    → All P ys → ¬ (P x) → slice_get (xs ++ y ∷ ys) i ≡ Some x
    → (slice_get xs i ≡ Some x) ⊎ ((i ≡ length xs) × (y ≡ x))
from_seam P [] y ys zero x all not is = inr (refl, cc)
from_seam P [] y ys (suc i) x all not is = absurd (not (subst P (get_or_from_slice_get ys i x x is)
    (All-get_or P ys i x (slice_get_within ys i x is) all)))
from_seam P (z ∷ xs) y ys zero x all not is = inl is
from_seam P (z ∷ xs) y ys (suc i) x all not is = elim (from_seam P xs y ys i x all not is) [
  | inl old ↦ inl old
  | inr new ↦ inr (ap suc new.0, new.1)
]

pub from_push : {X : Type 0} (xs : List X) (x y : X) (i : ℕ) → slice_get (xs ++ y ∷ []) i ≡ Some x
    → (slice_get xs i ≡ Some x) ⊎ ((i ≡ length xs) × (y ≡ x))
from_push xs x y i is = from_seam (λ _. ⊥) xs y [] i x (All-nil _) (λ none. none) is

-- a new one is found under the next index, and the others under theirs
pub found_pushed : {X : Type 0} (xs : List X) (x y : X) (b : Bool) (old : Option ℕ) (i : ℕ)
    → ((i : ℕ) → ¬ (slice_get xs i ≡ Some x)) → Decides b (x ≡ y)
    → (old ≡ Some i) ↔ (slice_get xs i ≡ Some y)
    → (cond b (Some (length xs)) old ≡ Some i) ↔ (slice_get (xs ++ x ∷ []) i ≡ Some y)
found_pushed xs x y true old i none told was =
    let same : x ≡ y = told.0 refl in (
      (λ h. let e : i ≡ length xs = cc in rw e (at_push xs x ∙ ap Some same)),
      λ h. elim (from_push xs y x i h) [
        | inl older ↦ absurd (none i (older ∙ ap Some (sym same)))
        | inr newer ↦ ap Some (sym newer.0)
      ],
    )
found_pushed xs x y false old i none told was = (
  (λ h. before_append xs (x ∷ []) i y (was.0 h)),
  λ h. elim (from_push xs y x i h) [
    | inl older ↦ was.1 older
    | inr newer ↦ let f : false ≡ true = told.1 newer.1 in cc
  ],
)

-- a text that has no id gets one
pub one_id_pushed : {X : Type 0} (texts : List X) (text : X)
    → ((i : ℕ) → ¬ (slice_get texts i ≡ Some text)) → HaveOneId texts
    → HaveOneId (texts ++ text ∷ [])
one_id_pushed texts text none once i j t is js =
    elim (from_push texts t text i is) [
      | inl old ↦ elim (from_push texts t text j js) [
        | inl older ↦ once i j t old older
        | inr new ↦ absurd (none i (old ∙ ap Some (sym new.1)))
      ]
      | inr new ↦ elim (from_push texts t text j js) [
        | inl old ↦ absurd (none j (old ∙ ap Some (sym new.1)))
        | inr newer ↦ new.0 ∙ sym newer.0
      ]
    ]
