use Rattle.std.proofs.Common.{◌<◌, ◌≤◌, ◌↔◌, ℕ, IsTrue, slice_index}
use Rattle.inlinable_string.proofs.string_ext.utf16.is_ascii_block.Given as goal

abbrev pub invariant-loop-i : goal.invariant-loop-i
invariant-loop-i l =
    IsTrue l.is_ascii ↔ ((j : ℕ) → l.from ≤ j → j < l.i → slice_index l.units j < 0x80)
