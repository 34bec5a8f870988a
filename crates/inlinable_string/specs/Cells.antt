-- Where a text starts in its array. No public contract mentions it.
use Rattle.std.specs.Prelude.{◌≡◌, ℕ, ◌+◌, ◌-◌, ◌≤◌, ◌&&◌, if◌then◌else◌, nat_le, nat_lt, List, length, take, drop}
use Rattle.inlinable_string.specs.declared.inline_string.window.Window.{Window}

-- the start of a text of len bytes after n more are inserted at p, from `start` and with `behind`
-- free bytes after the text: if both sides have space, the shorter part moves; if one side has, the
-- part on that side; else the text first moves to the front of the array
abbrev pub start_with_more : ℕ → ℕ → ℕ → ℕ → ℕ → ℕ
start_with_more start behind len p n =
    if nat_le n start && nat_le n behind then (if nat_lt p (len - p) then start - n else start)
    else (if nat_le n behind then start
    else (if nat_le n start then start - n else 0))

-- the same after the n bytes at p are removed: the shorter part moves
abbrev pub start_with_less : ℕ → ℕ → ℕ → ℕ → ℕ
start_with_less start len p n = if nat_lt p (len - p - n) then start + n else start

-- the bytes of the text of a window
abbrev pub window_bytes : {N : ℕ} → Window N → List ℕ
window_bytes w = take w.len (drop w.start w.bytes)

-- they are within the array
abbrev pub IsInside : {N : ℕ} → Window N → Type 0
IsInside {N} w = (length w.bytes ≡ N) × (w.start + w.len ≤ N)

-- its start after n more bytes are inserted at p
abbrev pub start_after_insertion : {N : ℕ} → Window N → ℕ → ℕ → ℕ
start_after_insertion {N} w p n = start_with_more w.start (N - w.len - w.start) w.len p n

-- its start after the bytes from p to q are removed
abbrev pub start_after_removal : {N : ℕ} → Window N → ℕ → ℕ → ℕ
start_after_removal w p q = start_with_less w.start w.len p (q - p)

-- its text is the bytes bs, which start at s
abbrev pub IsTextAt : {N : ℕ} → Window N → ℕ → List ℕ → Type 0
IsTextAt w s bs =
    IsInside w × (w.start ≡ s) × (w.len ≡ length bs) × (window_bytes w ≡ bs)
