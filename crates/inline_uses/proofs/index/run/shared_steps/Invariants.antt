use Rattle.inline_uses.proofs.Names.{common, min, ◌%◌, ◌+◌, ◌<◌, ◌≡◌, ◌≤◌}
use Rattle.inline_uses.proofs.index.run.shared_steps.Given as goal

-- full steps, of which one more is not shared
abbrev pub invariant-loop-front : goal.invariant-loop-front
invariant-loop-front l = (l.front % 16 ≡ 0) × (l.front ≤ l.most)
    × (min l.most (common l.one l.other) < l.front + 16)

abbrev pub decreases-loop-front : goal.decreases-loop-front
decreases-loop-front l = l.front
