use Rattle.inline_uses.proofs.Names.{arith, rules, runs_of}
use Rattle.inline_uses.proofs.InRuns.{later_start, own_len}
use Rattle.inline_uses.proofs.Places.{within_all}
use Rattle.inline_uses.proofs.index.Index.count_between.Goals as goal

pub overflow_add-count : goal.overflow_add-count
overflow_add-count c =
    let runs = runs_of c.args.self.now in
    let own = own_len runs c.loop-run.run _ c.run.ensures in
    let end = later_start runs c.loop-run.run c.args.end.run (search rules) in
    let all = within_all c.args.self.now c.args.end c.requires.end in
    omega (arith, own, end, all, c.loop-run.invariant.2, c.len-count.ensures, c.requires.fits)
