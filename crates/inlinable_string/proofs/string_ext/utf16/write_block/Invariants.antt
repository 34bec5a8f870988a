use Rattle.inlinable_string.proofs.Common.{◌≡◌, length, take, bytes_of, size, lossy_utf16, lossy_utf16_before}
use Rattle.inlinable_string.proofs.string_ext.utf16.write_block.Given as goal

abbrev pub invariant-loop-i : goal.invariant-loop-i
invariant-loop-i l = record {
  len : length l.bytes ≡ size (lossy_utf16 l.units);
  end : l.end ≡ size (lossy_utf16_before l.units l.i);
  written : take l.end l.bytes ≡ bytes_of (lossy_utf16_before l.units l.i);
}
