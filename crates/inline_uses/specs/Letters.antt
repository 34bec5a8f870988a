-- Long ranges of letters.
use Rattle.std.specs.Prelude.{ℕ, Bool, ◌||◌}
use Rattle.std.specs.Int.{is_in_range}

-- whether the character is in one of them
abbrev pub is_in_long_range : ℕ → Bool
is_in_long_range c =
    is_in_range 0xC0 0xD6 c || (is_in_range 0xD8 0xF6 c || (is_in_range 0xF8 0x2C1 c
    || (is_in_range 0x3A3 0x3F5 c || (is_in_range 0x3F7 0x481 c || (is_in_range 0x48A 0x52F c
    || (is_in_range 0x620 0x657 c || (is_in_range 0x1E00 0x1F15 c
    || (is_in_range 0x3041 0x3096 c || (is_in_range 0x30A1 0x30FA c
    || (is_in_range 0x4E00 0xA48C c || is_in_range 0xAC00 0xD7A3 c))))))))))
