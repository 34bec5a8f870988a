-- That the long ranges of letters are among all.
use Rattle.std.proofs.Common.{◌≡◌, ℕ, List, [], ◌∷◌, Bool, true, false, ◌&&◌, ◌||◌, leb, inl, inr, refl, arith}
use Rattle.std.proofs.lemmas.Bool.{or_cases, or_left, or_right}
use Rattle.std.proofs.lemmas.Bool.Decides.{nat_tests}
use Rattle.std.specs.Int.{is_in_range}
use Rattle.std.specs.Char.Unicode.Rows.{Range, in_ranges}
use Rattle.std.specs.Char.Unicode.Alphabetic.{alphabetic_ranges, is_alphabetic}
use Rattle.inline_uses.specs.Letters.{is_in_long_range}

-- one of the ranges has all from lo to hi
unfoldable has_range : ℕ → ℕ → List Range → Bool
has_range lo hi [] = false
has_range lo hi (r ∷ rs) = (leb r.0 lo && leb hi r.1) || has_range lo hi rs

wider : (a b lo hi c : ℕ) → (leb a lo && leb hi b) ≡ true → is_in_range lo hi c ≡ true
    → (leb a c && leb c b) ≡ true
wider a b lo hi c ranges is = grind (arith, nat_tests)

within : (rs : List Range) (lo hi c : ℕ) → has_range lo hi rs ≡ true → is_in_range lo hi c ≡ true
    → in_ranges rs c ≡ true
unfolding has_range in_ranges
within [] lo hi c has is = cc
within (r ∷ rs) lo hi c has is =
    elim (or_cases (leb r.0 lo && leb hi r.1) (has_range lo hi rs) has) [
      | inl here ↦ or_left _ _ (wider r.0 r.1 lo hi c here is)
      | inr later ↦ or_right _ _ (within rs lo hi c later is)
    ]

either : (x y z : Bool) → (x ≡ true → z ≡ true) → (y ≡ true → z ≡ true) → (x || y) ≡ true
    → z ≡ true
either true y z first second is = first refl
either false y z first second is = second is

letters : (c lo hi : ℕ) → has_range lo hi alphabetic_ranges ≡ true → is_in_range lo hi c ≡ true
    → is_alphabetic c ≡ true
unfolding is_alphabetic
letters c lo hi has is = within alphabetic_ranges lo hi c has is

pub long_range_is_letters : (c : ℕ) → is_in_long_range c ≡ true → is_alphabetic c ≡ true
unfolding has_range alphabetic_ranges
long_range_is_letters c =
    let z : Bool = is_alphabetic c in
    either _ _ z (letters c 0xC0 0xD6 refl) (either _ _ z (letters c 0xD8 0xF6 refl)
    (either _ _ z (letters c 0xF8 0x2C1 refl) (either _ _ z (letters c 0x3A3 0x3F5 refl)
    (either _ _ z (letters c 0x3F7 0x481 refl) (either _ _ z (letters c 0x48A 0x52F refl)
    (either _ _ z (letters c 0x620 0x657 refl) (either _ _ z (letters c 0x1E00 0x1F15 refl)
    (either _ _ z (letters c 0x3041 0x3096 refl) (either _ _ z (letters c 0x30A1 0x30FA refl)
    (either _ _ z (letters c 0x4E00 0xA48C refl) (letters c 0xAC00 0xD7A3 refl)))))))))))
