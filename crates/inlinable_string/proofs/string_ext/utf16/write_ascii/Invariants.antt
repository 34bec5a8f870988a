use Rattle.std.proofs.Common.{◌≡◌, length, take}
use Rattle.inlinable_string.proofs.string_ext.utf16.write_ascii.Given as goal

abbrev pub invariant-loop-i : goal.invariant-loop-i
invariant-loop-i l = (length l.bytes ≡ length l.units) × (take l.i l.bytes ≡ take l.i l.units)
