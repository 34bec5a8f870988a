-- UTF-16: the units of a text, and what any list of units is read as (the Unicode Standard,
-- sections 3.8 and 3.9). A high surrogate directly before a low one is a pair, and they are
-- partners.
use Rattle.std.specs.Prelude.{ℕ, zero, suc, ◌+◌, List, [], ◌∷◌, ◌++◌, length, Bool, false, not, ◌&&◌, ◌||◌, if◌then◌else◌, IsTrue, slice_index}
use Rattle.std.specs.List.{flat_map}
use Rattle.std.specs.Char.Escape.{encode_utf16}
use Rattle.std.specs.Char.Utf16.{is_high_surrogate, is_low_surrogate, surrogate_pair_char}

-- the UTF-16 of a text
abbrev pub units_of : List ℕ → List ℕ
units_of t = flat_map encode_utf16 t

-- a high surrogate stands at i; past the end there is none
abbrev pub is_high_at : List ℕ → ℕ → Bool
is_high_at v i = is_high_surrogate (slice_index v i)

-- a low one does
abbrev pub is_low_at : List ℕ → ℕ → Bool
is_low_at v i = is_low_surrogate (slice_index v i)

-- a high surrogate stands directly before i
abbrev pub is_high_before : List ℕ → ℕ → Bool
is_high_before v zero = false
is_high_before v (suc i) = is_high_at v i

-- the unit at i is a surrogate without its partner
abbrev pub is_unpaired : List ℕ → ℕ → Bool
is_unpaired v i =
    (is_high_at v i && not (is_low_at v (i + 1))) || (is_low_at v i && not (is_high_before v i))

-- some unit of v is a surrogate without its partner
abbrev pub HasUnpaired : List ℕ → Type 0
HasUnpaired v = (i : ℕ) × IsTrue (is_unpaired v i)

-- what the unit at i gives: U+FFFD where it is unpaired; a pair's character by its high surrogate,
-- and nothing by its low one; every other unit is a character
abbrev pub lossy_unit : List ℕ → ℕ → List ℕ
lossy_unit v i =
    if is_unpaired v i then 0xFFFD ∷ []
    else (if is_high_at v i
    then surrogate_pair_char (slice_index v i) (slice_index v (i + 1)) ∷ []
    else (if is_low_at v i then [] else slice_index v i ∷ []))

-- what the units before n give, in order
abbrev pub lossy_utf16_before : List ℕ → ℕ → List ℕ
lossy_utf16_before v zero = []
lossy_utf16_before v (suc n) = lossy_utf16_before v n ++ lossy_unit v n

-- the text that units are read as, with U+FFFD for each that is unpaired
abbrev pub lossy_utf16 : List ℕ → List ℕ
lossy_utf16 v = lossy_utf16_before v (length v)
