-- The length of a text counted over its UTF-16, unit by unit and without a branch.
use Rattle.std.specs.Prelude.{ℕ, zero, suc, ◌+◌, List, Bool, true, false, ◌||◌, if◌then◌else◌, nat_lt, slice_index}
use Rattle.std.specs.Char.Utf16.{is_high_surrogate, is_low_surrogate}
use Rattle.inlinable_string.specs.Utf16.{is_high_before, is_low_at}

-- how many bytes a unit counts for: a surrogate for half of the four of a pair
abbrev pub unit_len : ℕ → ℕ
unit_len u =
    if nat_lt u 0x80 then 1
    else (if nat_lt u 0x800 || (is_high_surrogate u || is_low_surrogate u) then 2 else 3)

-- 1 where a pair is begun and not ended, or ended and not begun
abbrev pub mismatch : Bool → Bool → ℕ
mismatch true true = 0
mismatch true false = 1
mismatch false true = 1
mismatch false false = 0

-- what the units before n count for
abbrev pub len_before : List ℕ → ℕ → ℕ
len_before v zero = 0
len_before v (suc n) = len_before v n + unit_len (slice_index v n)

-- how many of them do not match the one before them
abbrev pub mismatches_before : List ℕ → ℕ → ℕ
mismatches_before v zero = 0
mismatches_before v (suc n) = mismatches_before v n + mismatch (is_high_before v n) (is_low_at v n)
