-- The bytes of a character by its range.
use Rattle.inlinable_string.proofs.Common.{common_steps, ◌≡◌, ℕ, ◌+◌, ◌/◌, ◌%◌, ◌<◌, ◌≤◌, [], ◌∷◌, arith, refl, lt-ltb, le-ltb}
use Rattle.std.specs.Char.{encode_utf8}

pub two_bytes : (c : ℕ) → 0x80 ≤ c → c < 0x800
    → encode_utf8 c ≡ (0xC0 + c / 0x40) ∷ (0x80 + c % 0x40) ∷ []
unfolding encode_utf8
two_bytes c l h = rw (le-ltb c 0x80 l, lt-ltb c 0x800 h) refl

pub three_bytes : (c : ℕ) → 0x800 ≤ c → c < 0x1_0000
    → encode_utf8 c ≡ (0xE0 + c / 0x1000) ∷ (0x80 + c / 0x40 % 0x40) ∷ (0x80 + c % 0x40) ∷ []
unfolding encode_utf8
three_bytes c l h = rw (le-ltb c 0x80 (omega arith), le-ltb c 0x800 l, lt-ltb c 0x1_0000 h) refl

pub four_bytes : (c : ℕ) → 0x1_0000 ≤ c → encode_utf8 c
    ≡ (0xF0 + c / 0x4_0000) ∷ (0x80 + c / 0x1000 % 0x40) ∷ (0x80 + c / 0x40 % 0x40)
    ∷ (0x80 + c % 0x40) ∷ []
unfolding encode_utf8
four_bytes c l =
    rw (le-ltb c 0x80 (omega arith), le-ltb c 0x800 (omega arith), le-ltb c 0x1_0000 l) refl

pub ruleset char_bytes = (common_steps, two_bytes, three_bytes, four_bytes)
