use Rattle.inline_uses.proofs.Names.{refl}
use Rattle.inline_uses.proofs.RunRemovals.{run_less}
use Rattle.inline_uses.proofs.index.run.Run.remove.Goals as goal

pub returns-clause-run : goal.returns-clause-run
returns-clause-run c =
    λ text_of is. run_less text_of c.args.self.now _ c.args.at refl c.remove.ensures.items is
