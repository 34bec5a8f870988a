use Rattle.inlinable_string.proofs.Common.{◌≡◌, ◌-◌, length, chars}
use Rattle.std.specs.Fn.{Called}
use Rattle.inlinable_string.proofs.Retained.{RetainsSoFar}
use Rattle.inlinable_string.proofs.inline_string.retained.retain_in_front.Given as goal

abbrev pub invariant-loop-read : goal.invariant-loop-read
invariant-loop-read g l =
    (length l.cells ≡ length l.initial.cells) × goal.F-IsAlwaysCallable g l.keep
    × RetainsSoFar (λ before c answer after. Called g.F.FnMut before (c, tt) answer after)
    l.initial.keep (chars l.initial.cells) l.keep l.cells l.read l.kept

abbrev pub decreases-loop-read : goal.decreases-loop-read
decreases-loop-read g l = length l.initial.cells - l.read
