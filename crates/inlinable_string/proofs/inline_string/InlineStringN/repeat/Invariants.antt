use Rattle.std.proofs.Common.{◌≤◌}
use Rattle.inlinable_string.specs.Text.{size}
use Rattle.inlinable_string.proofs.Repeated.{Copies}
use Rattle.inlinable_string.proofs.inline_string.InlineStringN.repeat.Given as goal

abbrev pub invariant-loop : goal.invariant-loop
invariant-loop g l = Copies l.counter l.fn.string l.made × (size l.made ≤ g.row.N)
    × (l.counter ≤ l.fn.times)
