use Rattle.std.proofs.Common.{◌≡◌, ◌++◌}
use Rattle.inlinable_string.proofs.inline_string.InlineStringN.extend_chars.Given as goal

abbrev pub invariant-loop-ch : goal.invariant-loop-ch
invariant-loop-ch g l = l.self ≡ l.fn.self ++ l.yielded
