-- The cut of a text, and its last character.
use Rattle.inlinable_string.proofs.Common.{common_steps, ◌≡◌, ℕ, ◌-◌, ◌≤◌, true, false, nat_eq, nat_lt, List, [], ◌∷◌, ◌++◌, length, refl, sym, ap, ◌∙◌, arith, length-append, take, drop, take_at, take-append-drop, Option, Some, None, IsSome, Bool, IsTrue, ◌↔◌, cond_both, nat_tests, append_assoc, append-nil, encode_utf8, encodes-append, chars, IsUtf8, IsCharBoundary, IsCharBoundary-from_take, length-drop, length-encode, len_utf8_bounds, suc, zero, bytes_of, size, IsCut, IsPlace, cut, with_first, split_last}
use Rattle.std.proofs.Math.Seq.{take-append_seam}
use Rattle.std.proofs.lemmas.Str.{IsCharBoundary-from_drop}
use Rattle.inlinable_string.proofs.Text.{holds, boundary, cut_at, place_within}

pub cut_joined : (a b : List ℕ) → cut (a ++ b) (size a) ≡ Some (a, b)
cut_joined [] [] = refl
cut_joined [] (c ∷ t) = refl
cut_joined (c ∷ a) b =
    grind (arith, common_steps, cut_joined a b, length-encode, len_utf8_bounds, nat_tests)

-- what `cut` answers is the one cut
pub cut_is : (t : List ℕ) (p : ℕ) (a b : List ℕ) → IsCut t p a b → cut t p ≡ Some (a, b)
cut_is t p a b h = rw (h.joined, ← h.before) (cut_joined a b)

parts_are : {v w : List ℕ × List ℕ} → Some v ≡ Some w → (v.0 ≡ w.0) × (v.1 ≡ w.1)
parts_are {v} {w} h = grind (arith, common_steps)

from_first : (c : ℕ) (o : Option (List ℕ × List ℕ)) (a b : List ℕ)
    → with_first c o ≡ Some (a, b) → (d : List ℕ) × (a ≡ c ∷ d) × (o ≡ Some (d, b))
from_first c None a b h = cc
from_first c (Some parts) a b h = grind (arith, common_steps)

-- the answer o is a cut if it is any
abbrev Tells : List ℕ → ℕ → List ℕ → List ℕ → Option (List ℕ × List ℕ) → Type 0
Tells t p a b o = o ≡ Some (a, b) → IsCut t p a b

at_start : (t : List ℕ) (p : ℕ) (a b : List ℕ) → nat_eq p 0 ≡ true → Tells t p a b (Some ([], t))
at_start t p a b z h = grind (arith, common_steps)

-- and the other way round
pub is_cut : (t : List ℕ) (p : ℕ) (a b : List ℕ) → cut t p ≡ Some (a, b) → IsCut t p a b
is_cut [] p a b = grind (arith, common_steps)
is_cut (c ∷ t) p a b =
    let n = length (encode_utf8 c) in
    cond_both (nat_eq p 0) _ _ (Tells (c ∷ t) p a b) (at_start (c ∷ t) p a b)
    (λ z. cond_both (nat_lt p n) _ _ (Tells (c ∷ t) p a b) (λ y h. cc) (λ y h.
    let r = from_first c (cut t (p - n)) a b h in
    let deeper : IsCut t (p - n) r.0 b = is_cut t (p - n) r.0 b r.2 in
    let long : n ≤ p = grind (arith, nat_tests, y) in
    let sizes = length-append (encode_utf8 c) (bytes_of r.0) in
    record {
      joined = ap (λ l. c ∷ l) deeper.joined ∙ ap (λ l. l ++ b) (sym r.1);
      before = rw r.1 (sizes ∙ omega (arith, deeper.before, long));
    }))

none_from : (o : Option (List ℕ × List ℕ)) → ((a b : List ℕ) → o ≡ Some (a, b) → ⊥) → o ≡ None
none_from None h = refl
none_from (Some parts) h = absurd (h parts.0 parts.1 refl)

pub no_cut : (t : List ℕ) (p : ℕ) → (IsPlace t p → ⊥) → cut t p ≡ None
no_cut t p h = none_from (cut t p) (λ a b e. h (a, b, is_cut t p a b e))

at_cut : (t : List ℕ) (p : ℕ) (o : Option (List ℕ × List ℕ)) → cut t p ≡ o → IsSome o → IsPlace t p
at_cut t p None is kept = cc
at_cut t p (Some parts) is kept = (parts.0, parts.1, is_cut t p parts.0 parts.1 is)

at_place : (t : List ℕ) (p : ℕ) → IsPlace t p → IsSome (cut t p)
at_place t p place = rw (cut_is t p place.0 place.1 place.2) refl

-- a text is cut exactly at its places
pub cut_where_place : (t : List ℕ) (p : ℕ) → IsSome (cut t p) ↔ IsPlace t p
cut_where_place t p = (at_cut t p (cut t p) refl, at_place t p)

pub split_last-append : (v : List ℕ) (c : ℕ) → split_last (v ++ c ∷ []) ≡ Some (v, c)
split_last-append [] c = refl
split_last-append (d ∷ v) c = rw (split_last-append v c)

-- what a test that fails shows
pub not_from_test : {P : Type 0} (b : Bool) → (IsTrue b ↔ P) → b ≡ false → ¬ P
not_from_test b test failed at = let passed : b ≡ true = test.1 at in cc

-- where the rest of a list begins
pub rest_begins : (n : ℕ) (xs rest : List ℕ) → rest ≡ drop n xs
    → rest ≡ drop (length xs - length rest) xs
rest_begins zero xs rest e =
    let none : length xs - length rest ≡ 0 = omega (arith, ap length e) in rw none e
rest_begins (suc n) [] rest e = rw e refl
rest_begins (suc n) (x ∷ xs) rest e =
    let shorter : length rest ≤ length xs = omega (arith, ap length e, length-drop n xs) in
    let more : suc (length xs) - length rest ≡ suc (length xs - length rest) =
    omega (arith, shorter) in
    rest_begins n xs rest e ∙ ap (λ k. drop k (x ∷ xs)) (sym more)

module _ (t bs : List ℕ) (u : IsUtf8 bs) (e : bs ≡ bytes_of t) where
  -- the test of the bytes is that of the characters
  pub places_are : (p : ℕ) → IsCharBoundary bs p ↔ IsPlace t p
  places_are p = (λ at. (_, _, cut_at (holds u e) p at), boundary (holds u e))

  pub cut_of_bytes : (a b : List ℕ) (p : ℕ) → IsCut t p a b
      → (a ≡ chars (take p bs)) × (b ≡ chars (drop p bs))
  cut_of_bytes a b p at =
      let at_bytes = cut_at (holds u e) p ((places_are p).1 (a, b, at)) in
      parts_are (sym (cut_is t p a b at) ∙ cut_is t p _ _ at_bytes)

  pub back_of_cut : (a b : List ℕ) (p : ℕ) → IsCut t p a b → t ≡ a ++ chars (drop p (bytes_of t))
  back_of_cut a b p at = rw (← e, ← (cut_of_bytes a b p at).1) at.joined

  -- a front of the bytes that is UTF-8 ends at a place
  pub place_of_front : (xs ys : List ℕ) → IsUtf8 xs → bs ≡ xs ++ ys → IsPlace t (length xs)
  place_of_front xs ys v h =
      let short : length xs ≤ length bs = omega (arith, ap length h, length-append xs ys) in
      let same = ap (take (length xs)) h ∙ take_at xs ys (length xs) refl in
      (places_are _).0 (IsCharBoundary-from_take bs (length xs) u short (rw same v))

  pub place_of_split : (xs ys : List ℕ) (n : ℕ) → IsUtf8 xs → take n bs ≡ xs ++ ys
      → IsPlace t (length xs)
  place_of_split xs ys n v h =
      place_of_front xs (ys ++ drop n bs) v
      (rw (h, append_assoc) at (sym (take-append-drop n bs)))

  pub place_of_taken : (xs : List ℕ) (n : ℕ) → IsUtf8 xs → xs ≡ take n bs → IsPlace t (length xs)
  place_of_taken xs n v h = place_of_split xs [] n v (sym h ∙ sym (append-nil xs))

  -- and so does what stands before a rest of them that is UTF-8
  pub place_of_rest : (xs : List ℕ) (n : ℕ) → IsUtf8 xs → xs ≡ drop n bs
      → IsPlace t (length bs - length xs)
  place_of_rest xs n v h =
      let at = length bs - length xs in
      (places_are at).0
      (IsCharBoundary-from_drop bs at (omega arith) (rw (rest_begins n bs xs h) at v))

pub ruleset places_of_bytes = (place_within, places_are)

pub front_bytes : (t a b : List ℕ) (p : ℕ) → IsCut t p a b → bytes_of a ≡ take p (bytes_of t)
front_bytes t a b p c =
    let joined : bytes_of t ≡ bytes_of a ++ bytes_of b =
    ap bytes_of c.joined ∙ encodes-append a b in
    sym (take-append_seam (bytes_of a) (bytes_of b)) ∙ ap (take (size a)) (sym joined)
    ∙ ap (λ n. take n (bytes_of t)) c.before

pub ruleset fronts = (take-append-drop, front_bytes)
