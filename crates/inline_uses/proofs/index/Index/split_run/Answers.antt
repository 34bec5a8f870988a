use Rattle.inline_uses.proofs.RunSplits.{split_failed, split_made}
use Rattle.inline_uses.proofs.Spots.{run_replaced}
use Rattle.inline_uses.proofs.index.Index.split_run.Goals as goal

pub returns-clause-ok : goal.returns-clause-ok
returns-clause-ok g c = split_made
    (run_replaced c.args.self.now c.args.at _ c.split.new.self c.run_mut.ensures.value)
    c.split.ensures.run c.args.kept c.split.result c.split.ensures.lower c.split.ensures.upper
    c.split.ensures.upper_run

pub returns-clause-err : goal.returns-clause-err
returns-clause-err g c = split_failed
    (run_replaced c.args.self.now c.args.at _ c.split.new.self c.run_mut.ensures.value)
    c.split.ensures.run c.split.result c.split.ensures.err
