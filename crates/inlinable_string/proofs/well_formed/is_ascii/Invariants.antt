use Rattle.std.proofs.Common.{◌<◌, ◌↔◌, ℕ, IsTrue, slice_index}
use Rattle.inlinable_string.proofs.well_formed.is_ascii.Given as goal

abbrev pub invariant-loop-i : goal.invariant-loop-i
invariant-loop-i l = IsTrue l.is_ascii ↔ ((j : ℕ) → j < l.i → slice_index l.bytes j < 0x80)
