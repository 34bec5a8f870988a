-- No byte so far is the one that is looked for.
use Rattle.std.proofs.Common.{◌≢◌, ℕ, ◌-◌, ◌<◌, ◌≤◌, length, slice_index}
use Rattle.script_language.proofs.cut.place_before.Given as goal

abbrev pub invariant-loop-at : goal.invariant-loop-at
invariant-loop-at l = (l.at ≤ length l.bytes)
    × ((k : ℕ) → k < l.at → slice_index l.bytes k ≢ l.byte)

abbrev pub decreases-loop-at : goal.decreases-loop-at
decreases-loop-at l = l.end - l.at
