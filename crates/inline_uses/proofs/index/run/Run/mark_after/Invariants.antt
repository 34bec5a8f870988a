use Rattle.inline_uses.proofs.Remarked.{IsMarkedTo}
use Rattle.inline_uses.proofs.index.run.Run.mark_after.Given as goal

abbrev pub invariant-loop-i : goal.invariant-loop-i
invariant-loop-i g l = IsMarkedTo (g.T.Texts.text_of l.texts) l.front l.i l.fn.self l.self
