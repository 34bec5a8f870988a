use Rattle.inlinable_string.proofs.Common.{◌≡◌, ◌+◌, ◌*◌, ◌-◌, ◌≤◌, length, drop}
use Rattle.inlinable_string.proofs.LossyText.{most}
use Rattle.inlinable_string.proofs.string_ext.utf8.room_for.Given as goal

abbrev pub invariant-loop-start : goal.invariant-loop-start
invariant-loop-start l =
    (l.others ≤ l.start) × (l.start ≤ length l.bytes)
    × (2 * l.others + l.start + most (drop l.start l.bytes) ≡ most l.bytes)

abbrev pub decreases-loop-start : goal.decreases-loop-start
decreases-loop-start l = length l.bytes - l.start

abbrev pub invariant-loop-i : goal.invariant-loop-i
invariant-loop-i l =
    (l.start + l.few ≤ l.i)
    × (2 * (l.others + l.few) + l.i + most (drop l.i l.bytes) ≡ most l.bytes)
