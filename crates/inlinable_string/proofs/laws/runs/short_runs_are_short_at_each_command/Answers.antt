use Rattle.inlinable_string.proofs.Unrefused.{stays_at, stays_if}
use Rattle.inlinable_string.proofs.laws.runs.short_runs_are_short_at_each_command.Goals as goal

pub returns : goal.returns
returns c =
    λ n t commands.
    (λ within i command. stays_at n t commands i command within, stays_if n t commands)
