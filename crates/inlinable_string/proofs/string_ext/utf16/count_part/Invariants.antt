use Rattle.inlinable_string.proofs.Common.{◌≡◌, ◌+◌, ◌*◌, ◌≤◌}
use Rattle.inlinable_string.specs.Utf16Count.{len_before, mismatches_before}
use Rattle.inlinable_string.proofs.string_ext.utf16.count_part.Given as goal

abbrev pub invariant-loop-i : goal.invariant-loop-i
invariant-loop-i l = record {
  len : len_before l.units l.from + l.len ≡ len_before l.units l.i;
  unpaired : mismatches_before l.units l.from + l.unpaired ≡ mismatches_before l.units l.i;
  len_bound : l.len + 3 * l.from ≤ 3 * l.i;
  unpaired_bound : l.unpaired + l.from ≤ l.i;
}
