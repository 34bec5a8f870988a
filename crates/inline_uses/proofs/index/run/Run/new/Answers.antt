use Rattle.inline_uses.proofs.IndexRuns.{no_run}
use Rattle.inline_uses.proofs.index.run.Run.new.Goals as goal

pub returns-clause-run : goal.returns-clause-run
returns-clause-run c = λ text_of. no_run text_of (record { front = 0; marks = c.new.result })
    c.new.ensures.items
