use Rattle.inline_uses.proofs.Names.{ap, runs_of, suc, ◌∷◌}
use Rattle.inline_uses.proofs.RunRemovals.{flat_gone, without_run}
use Rattle.inline_uses.proofs.index.Index.remove_run.Goals as goal

pub returns-clause-ids : goal.returns-clause-ids
returns-clause-ids c = rw c.remove.ensures.items
    (flat_gone (runs_of c.args.self.now) (suc c.args.at) c.requires.one)

pub returns-clause-index : goal.returns-clause-index
returns-clause-index c = λ text_of is. without_run text_of c.args.self.now _ c.args.at is
    c.requires.one (ap (λ runs. c.args.self.now.first ∷ runs) c.remove.ensures.items)
    c.remove-2.ensures.ids (c.remove-2.ensures.run text_of is.starts)
