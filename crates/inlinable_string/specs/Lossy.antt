-- What any list of bytes is read as where a text is wanted: U+FFFD for each maximal subpart that is
-- no character (the Unicode Standard, section 3.9, U+FFFD Substitution of Maximal Subparts).
use Rattle.std.specs.Prelude.{ℕ, zero, suc, ◌+◌, ◌-◌, List, [], ◌∷◌, ◌++◌, take, ◌==◌, if◌then◌else◌}
use Rattle.std.specs.Int.{is_in_range}
use Rattle.std.specs.Str.{chars, is_utf8}

-- by the first byte of a character: the ranges of those that follow it (the Unicode Standard, table
-- 3-7); none after a character of one byte, nor after a byte that begins none
abbrev pub following : ℕ → List (ℕ × ℕ)
following b =
    if is_in_range 0xC2 0xDF b then (0x80, 0xBF) ∷ []
    else (if b == 0xE0 then (0xA0, 0xBF) ∷ (0x80, 0xBF) ∷ []
    else (if is_in_range 0xE1 0xEC b then (0x80, 0xBF) ∷ (0x80, 0xBF) ∷ []
    else (if b == 0xED then (0x80, 0x9F) ∷ (0x80, 0xBF) ∷ []
    else (if is_in_range 0xEE 0xEF b then (0x80, 0xBF) ∷ (0x80, 0xBF) ∷ []
    else (if b == 0xF0 then (0x90, 0xBF) ∷ (0x80, 0xBF) ∷ (0x80, 0xBF) ∷ []
    else (if is_in_range 0xF1 0xF3 b then (0x80, 0xBF) ∷ (0x80, 0xBF) ∷ (0x80, 0xBF) ∷ []
    else (if b == 0xF4 then (0x80, 0x8F) ∷ (0x80, 0xBF) ∷ (0x80, 0xBF) ∷ []
    else [])))))))

-- how many bytes at the front of bs are in the ranges, one after the other
abbrev pub count_in : List (ℕ × ℕ) → List ℕ → ℕ
count_in [] bs = 0
count_in (range ∷ ranges) [] = 0
count_in (range ∷ ranges) (b ∷ bs) =
    if is_in_range range.0 range.1 b then 1 + count_in ranges bs else 0

-- the length of the maximal subpart that begins bs: the longest front of bs that begins the code of
-- some character, or one byte
abbrev pub subpart_len : List ℕ → ℕ
subpart_len [] = 0
subpart_len (b ∷ bs) = 1 + count_in (following b) bs

-- the length of the character that begins bs, or 0 where none does
abbrev pub char_len : List ℕ → ℕ
char_len bs =
    if is_utf8 (take 1 bs) then 1
    else (if is_utf8 (take 2 bs) then 2
    else (if is_utf8 (take 3 bs) then 3
    else (if is_utf8 (take 4 bs) then 4
    else 0)))

-- the text of the bytes bs without the first n
abbrev pub lossy_utf8_past : ℕ → List ℕ → List ℕ
lossy_utf8_past n [] = []
lossy_utf8_past (suc n) (b ∷ bs) = lossy_utf8_past n bs
lossy_utf8_past zero (b ∷ bs) =
    let n = char_len (b ∷ bs) in
    if n == 0 then 0xFFFD ∷ lossy_utf8_past (subpart_len (b ∷ bs) - 1) bs
    else chars (take n (b ∷ bs)) ++ lossy_utf8_past (n - 1) bs

-- the text that bytes are read as, with U+FFFD for each maximal subpart that is no character
abbrev pub lossy_utf8 : List ℕ → List ℕ
lossy_utf8 bs = lossy_utf8_past 0 bs
