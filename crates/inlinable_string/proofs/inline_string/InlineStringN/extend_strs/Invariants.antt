use Rattle.std.proofs.Common.{◌≡◌, ◌++◌}
use Rattle.inlinable_string.specs.Joins.{text_of_strs}
use Rattle.inlinable_string.proofs.inline_string.InlineStringN.extend_strs.Given as goal

abbrev pub invariant-loop-string : goal.invariant-loop-string
invariant-loop-string g l = l.self ≡ l.fn.self ++ text_of_strs l.yielded
