-- Sizes of texts as sums.
use Rattle.inlinable_string.proofs.Common.{zero, suc, ◌≡◌, ℕ, ◌+◌, ◌*◌, ◌-◌, List, [], ◌∷◌, ◌++◌, sym, arith, chars, size, text_of_strs, text_of_strs_with}
use Rattle.std.proofs.Math.Nat.{zero-mul, suc-mul}
use Rattle.std.specs.Borrow.{Bor}
use Rattle.std.specs.List.{flat_map, fold}
use Rattle.std.specs.Prelude.{replicate}
use Rattle.inlinable_string.proofs.Text.{size-append}

fold_sizes : (n : ℕ) (t : List ℕ) → fold (λ m c. m + size (c ∷ [])) n t ≡ n + size t
fold_sizes n [] = omega arith
fold_sizes n (c ∷ t) = omega (arith, fold_sizes (n + size (c ∷ [])) t, size-append (c ∷ []) t)

pub sum_of_chars : (t : List ℕ) → size t ≡ fold (λ m c. m + size (c ∷ [])) 0 t
sum_of_chars t = omega (arith, fold_sizes 0 t)

fold_strs : (n : ℕ) (items : List (Bor (List ℕ)))
    → fold (λ m s. m + size (chars s.now)) n items ≡ n + size (text_of_strs items)
fold_strs n [] = omega arith
fold_strs n (s ∷ items) = omega (
  arith,
  fold_strs (n + size (chars s.now)) items,
  size-append (chars s.now) (text_of_strs items),
)

pub sum_of_strs : (items : List (Bor (List ℕ)))
    → size (text_of_strs items) ≡ fold (λ m s. m + size (chars s.now)) 0 items
sum_of_strs items = omega (arith, fold_strs 0 items)

fold_separated : (separator : List ℕ) (n : ℕ) (items : List (Bor (List ℕ)))
    → fold (λ m s. m + (size separator + size (chars s.now))) n items
    ≡ n + size (flat_map (λ s. separator ++ chars s.now) items)
fold_separated separator n [] = omega arith
fold_separated separator n (s ∷ items) = omega (
  arith,
  fold_separated separator (n + (size separator + size (chars s.now))) items,
  size-append (separator ++ chars s.now) (flat_map (λ t. separator ++ chars t.now) items),
  size-append separator (chars s.now),
)

pub sum_of_strs_with : (separator : List ℕ) (items : List (Bor (List ℕ)))
    → size (text_of_strs_with separator items)
    ≡ fold (λ m s. m + (size separator + size (chars s.now))) 0 items - size separator
sum_of_strs_with separator [] = omega arith
sum_of_strs_with separator (s ∷ items) = omega (
  arith,
  fold_separated separator (0 + (size separator + size (chars s.now))) items,
  size-append (chars s.now) (flat_map (λ t. separator ++ chars t.now) items),
)

pub size-replicate : (n c : ℕ) → size (replicate n c) ≡ n * size (c ∷ [])
size-replicate zero c = sym (zero-mul (size (c ∷ [])))
size-replicate (suc n) c = omega (
  arith,
  size-append (c ∷ []) (replicate n c),
  size-replicate n c,
  suc-mul n (size (c ∷ [])),
)

pub ruleset sums = (sum_of_chars, sum_of_strs, sum_of_strs_with, size-replicate)
