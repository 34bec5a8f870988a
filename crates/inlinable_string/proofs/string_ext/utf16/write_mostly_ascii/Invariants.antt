use Rattle.inlinable_string.proofs.Common.{◌≡◌, length, take, ◌-◌, ◌≤◌, bytes_of, size, lossy_utf16, lossy_utf16_before}
use Rattle.inlinable_string.proofs.string_ext.utf16.write_mostly_ascii.Given as goal

abbrev pub invariant-loop-i : goal.invariant-loop-i
invariant-loop-i l = record {
  start : l.i ≤ length l.units;
  len : length l.bytes ≡ size (lossy_utf16 l.units);
  at : l.at ≡ size (lossy_utf16_before l.units l.i);
  written : take l.at l.bytes ≡ bytes_of (lossy_utf16_before l.units l.i);
}

abbrev pub decreases-loop-i : goal.decreases-loop-i
decreases-loop-i l = length l.units - l.i
