use Rattle.inline_uses.proofs.Names.{take, ◌≡◌}
use Rattle.inline_uses.proofs.index.run.shared_len.Given as goal

abbrev pub invariant-loop-at : goal.invariant-loop-at
invariant-loop-at l = take l.at l.one ≡ take l.at l.other
