use Rattle.inline_uses.proofs.Names.{runs_of}
use Rattle.inline_uses.proofs.InRuns.{in_flat}
use Rattle.inline_uses.proofs.index.Index.id.Goals as goal

pub returns : goal.returns
returns c = in_flat (runs_of c.args.self.now) c.args.spot.run c.run.result.now c.args.spot.at
    c.id.result c.run.ensures c.id.ensures
