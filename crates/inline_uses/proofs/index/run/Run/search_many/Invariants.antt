use Rattle.inline_uses.proofs.Names.{◌-◌}
use Rattle.inline_uses.proofs.IndexRuns.{GoesIn}
use Rattle.inline_uses.proofs.index.run.Run.search_many.Given as goal

abbrev pub invariant-loop-start : goal.invariant-loop-start
invariant-loop-start g l = GoesIn (g.T.Texts.text_of l.texts) l.self l.text l.start l.end

abbrev pub decreases-loop-start : goal.decreases-loop-start
decreases-loop-start g l = l.end - l.start
