-- What the contracts of a row cite: its entries are stored after blank ones.
use Rattle.std.specs.Prelude.{ℕ, ◌≡◌, ◌+◌, ◌-◌, ◌/◌, ◌<◌, ◌≤◌, Bool, ◌&&◌, List, drop, length, max, min, nat_le, nat_lt, vec_capacity, vec_len}
use Rattle.inlinable_string.specs.declared.inlinable_string.InlinableStringN.{InlinableStringN}
use Rattle.inline_uses.specs.declared.store.window.row.Row.{Row}
use Rattle.inline_uses.specs.declared.store.window.row.TheConstants.{LEAST, LONG_ROW}

-- those after the blank ones
abbrev pub entries : Row → List (InlinableStringN 30 × InlinableStringN 30)
entries row = drop row.start row.cells.items

-- the number of blank entries is at most the length of the row
abbrev pub IsRow : Row → Type 0
IsRow row = row.start ≤ length row.cells.items

-- the number of entries for which there is memory, blank ones among them
abbrev pub places : Row → ℕ
places row = vec_capacity row.cells

-- of an edit at an index, those before it move: there are many, and fewer are before it than after
abbrev pub moves_head : ℕ → ℕ → Bool
moves_head len at = nat_le LONG_ROW len && nat_lt at (len / 2)

-- there is no room before the entries, and after them room for a quarter of them
abbrev pub HasRoomAfter : Row → Type 0
HasRoomAfter row = (row.start ≡ 0) × (vec_len row.cells + vec_len row.cells / 4 ≤ places row)

-- there is no room after the entries, and before them room for more than a quarter of them
abbrev pub HasRoomBefore : Row → Type 0
HasRoomBefore row = (vec_len row.cells ≡ places row) × (length (entries row) / 4 < row.start)

-- the room that is made before entries: half of what there is, and at most as much as they take
abbrev pub room_before : Row → ℕ → ℕ
room_before row all = min (vec_len row.cells) ((all - vec_len row.cells) / 2)

-- the capacity once it has grown: the length and what it was, or the length and the least
abbrev pub next_places : Row → ℕ
next_places row = vec_len row.cells + max (places row) LEAST
