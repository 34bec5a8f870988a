-- The states of the test for UTF-8: what has to follow the bytes before.
use Rattle.std.specs.Prelude.{◌≡◌, ◌↔◌, ℕ, ◌%◌, Bool, true, List, [], ◌∷◌, ◌++◌, ◌&&◌, nat_eq, nat_lt, if◌then◌else◌, bit_and, IsUtf8}
use Rattle.std.specs.Int.{is_in_range}

-- a byte in each of the ranges, and then text
abbrev pub Follows : List (ℕ × ℕ) → List ℕ → Type 0
Follows [] s = IsUtf8 s
Follows (r ∷ ranges) [] = ⊥
Follows (r ∷ ranges) (b ∷ s) = (is_in_range r.0 r.1 b ≡ true) × Follows ranges s

-- no byte is in this range
abbrev pub nothing : List (ℕ × ℕ)
nothing = (1, 0) ∷ []

-- the ranges of a state
abbrev pub ranges_of : ℕ → List (ℕ × ℕ)
ranges_of n =
    if nat_eq n 0 then []
    else (if nat_eq n 6 then (0x80, 0xBF) ∷ []
    else (if nat_eq n 12 then (0x80, 0xBF) ∷ (0x80, 0xBF) ∷ []
    else (if nat_eq n 18 then (0x80, 0xBF) ∷ (0x80, 0xBF) ∷ (0x80, 0xBF) ∷ []
    else (if nat_eq n 24 then (0xA0, 0xBF) ∷ (0x80, 0xBF) ∷ []
    else (if nat_eq n 30 then (0x80, 0x9F) ∷ (0x80, 0xBF) ∷ []
    else (if nat_eq n 36 then (0x90, 0xBF) ∷ (0x80, 0xBF) ∷ (0x80, 0xBF) ∷ []
    else (if nat_eq n 42 then (0x80, 0x8F) ∷ (0x80, 0xBF) ∷ (0x80, 0xBF) ∷ []
    else nothing)))))))

-- the nine states
abbrev pub is_state : ℕ → Bool
is_state n = nat_lt n 54 && nat_eq (n % 6) 0

-- the state in the six low bits
abbrev pub state_of : ℕ → ℕ
state_of bits = bit_and bits 63

-- the bytes bs lead from one state to another
pub record Leads (from : ℕ) (bs : List ℕ) (to : ℕ) : Type 0 where
  pub known : is_state to ≡ true
  pub rest : (s : List ℕ) → Follows (ranges_of from) (bs ++ s) ↔ Follows (ranges_of to) s
