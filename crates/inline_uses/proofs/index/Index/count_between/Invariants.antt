use Rattle.inline_uses.proofs.Names.{length, runs_of, take, ◌+◌, ◌≡◌, ◌≤◌}
use Rattle.inline_uses.proofs.InRuns.{flat}
use Rattle.inline_uses.proofs.index.Index.count_between.Given as goal

-- the number of ids in the runs so far, and before the end in its run
abbrev pub invariant-loop-run : goal.invariant-loop-run
invariant-loop-run l = (l.from.run ≤ l.run) × (l.run ≤ l.fn.end.run)
    × (l.count + length (flat (take l.from.run (runs_of l.self)))
    ≡ l.fn.end.at + length (flat (take l.run (runs_of l.self))))
