-- Places and commands.
use Rattle.inlinable_string.proofs.Common.{◌≡◌, ◌↔◌, ℕ, List, refl, ap, ◌∙◌, Option, Some, None, rules, cut, IsCut, IsPlace, becomes, reply_of, text_left, edit, insertion, truncation, Truncate, Reply, Done, BadPlace}
use Rattle.inlinable_string.proofs.Cut.{cut_is, is_cut, no_cut}

-- `Truncate` keeps what stands before a place
truncation_from : (t v : List ℕ) (p : ℕ) (o : Option (List ℕ × List ℕ)) → cut t p ≡ o
    → truncation o ≡ becomes v → (rest : List ℕ) × IsCut t p v rest
truncation_from t v p None e h = cc
truncation_from t v p (Some parts) e h =
    (parts.1, is_cut t p v parts.1 (e ∙ ap (λ x. Some (x, parts.1)) (ap (text_left t) h)))

pub truncations_cut : (t v : List ℕ) (p : ℕ)
    → (edit t (Truncate p) ≡ becomes v) ↔ ((rest : List ℕ) × IsCut t p v rest)
truncations_cut t v p = search (rules, truncation_from, cut_is)

-- a command that goes by the parts of the text is carried out exactly where there are any, and
-- answered as a bad place elsewhere
module _ (t : List ℕ) (p : ℕ) (answer : Option (List ℕ × List ℕ) → Reply)
    (bad : answer None ≡ BadPlace)
    (done : (parts : List ℕ × List ℕ) → answer (Some parts) ≡ Done) where
  done_at : IsPlace t p → answer (cut t p) ≡ Done
  done_at at = ap answer (cut_is t p at.0 at.1 at.2) ∙ done (at.0, at.1)

  bad_elsewhere : (answer (cut t p) ≡ BadPlace) ↔ (¬ (IsPlace t p))
  bad_elsewhere = (λ e at. cc (done_at at), λ none. ap answer (no_cut t p none) ∙ bad)

  place_from : (o : Option (List ℕ × List ℕ)) → cut t p ≡ o → answer o ≡ Done → IsPlace t p
  place_from None e h = cc
  place_from (Some parts) e h = (parts.0, parts.1, is_cut t p parts.0 parts.1 e)

  done_by_parts : (answer (cut t p) ≡ Done) ↔ IsPlace t p
  done_by_parts = (place_from (cut t p) refl, done_at)

pub placed_insertion : (t u : List ℕ) (p : ℕ)
    → (reply_of (insertion u (cut t p)) ≡ Done) ↔ IsPlace t p
placed_insertion t u p =
    done_by_parts t p (λ o. reply_of (insertion u o)) refl (λ parts. refl)

pub placed_truncation : (t : List ℕ) (p : ℕ)
    → (reply_of (truncation (cut t p)) ≡ Done) ↔ IsPlace t p
placed_truncation t p = done_by_parts t p (λ o. reply_of (truncation o)) refl (λ parts. refl)

-- an insertion is answered as a bad place exactly where there is none
pub misplaced_insertion : (t u : List ℕ) (p : ℕ)
    → (reply_of (insertion u (cut t p)) ≡ BadPlace) ↔ (¬ (IsPlace t p))
misplaced_insertion t u p = bad_elsewhere t p (λ o. reply_of (insertion u o)) refl (λ parts. refl)

pub misplaced_truncation : (t : List ℕ) (p : ℕ)
    → (reply_of (truncation (cut t p)) ≡ BadPlace) ↔ (¬ (IsPlace t p))
misplaced_truncation t p = bad_elsewhere t p (λ o. reply_of (truncation o)) refl (λ parts. refl)

pub ruleset at_places = (
  placed_insertion,
  placed_truncation,
  misplaced_insertion,
  misplaced_truncation,
)
