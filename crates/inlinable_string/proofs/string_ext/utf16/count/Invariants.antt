use Rattle.inlinable_string.proofs.Common.{◌≡◌, ◌*◌, ◌≤◌, ◌<◌, ◌-◌, length}
use Rattle.inlinable_string.specs.Utf16Count.{len_before, mismatches_before}
use Rattle.inlinable_string.proofs.string_ext.utf16.count.Given as goal

abbrev pub invariant-loop-from : goal.invariant-loop-from
invariant-loop-from l = record {
  start : 0 < l.from;
  end : l.from ≤ length l.units;
  len : l.len ≡ len_before l.units l.from;
  unpaired : l.unpaired ≡ mismatches_before l.units l.from;
  len_bound : l.len ≤ 3 * l.from;
  unpaired_bound : l.unpaired ≤ l.from;
}

abbrev pub decreases-loop-from : goal.decreases-loop-from
decreases-loop-from l = length l.units - l.from
