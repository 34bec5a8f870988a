-- Strings that are joined with a separator between each two.
use Rattle.inlinable_string.proofs.Common.{◌≡◌, ℕ, List, [], ◌∷◌, ◌++◌, refl, sym, append-nil, flat_map_more, chars, text_of_strs_with}
use Rattle.std.specs.Borrow.{Bor}

-- what comes before the string after these
abbrev pub before_next : List ℕ → List (Bor (List ℕ)) → List ℕ
before_next separator [] = []
before_next separator (x ∷ xs) = separator

-- a string more
pub text_of_strs_with-more : (separator : List ℕ) (items : List (Bor (List ℕ)))
    (s : Bor (List ℕ)) → text_of_strs_with separator (items ++ s ∷ [])
    ≡ text_of_strs_with separator items ++ (before_next separator items ++ chars s.now)
text_of_strs_with-more separator [] s = append-nil (chars s.now)
text_of_strs_with-more separator (x ∷ xs) s =
    sym (flat_map_more (λ (y : Bor (List ℕ)). separator ++ chars y.now) (chars x.now) xs s)

-- and after it the separator comes next
pub before_next-more : (separator : List ℕ) (items : List (Bor (List ℕ))) (s : Bor (List ℕ))
    → separator ≡ before_next separator (items ++ s ∷ [])
before_next-more separator [] s = refl
before_next-more separator (x ∷ xs) s = refl
