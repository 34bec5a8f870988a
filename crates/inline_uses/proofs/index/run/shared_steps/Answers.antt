use Rattle.inline_uses.proofs.Names.{arith, rules, take, ◌≢◌}
use Rattle.inline_uses.proofs.RunFronts.{common_less}
use Rattle.inline_uses.proofs.index.run.shared_steps.Goals as goal

pub loop-front-preserved : goal.loop-front-preserved
loop-front-preserved c =
    let front = c.loop-front.front in
    let differ : take front c.args.one.now ≢ take front c.args.other.now = search rules in
    let less = common_less c.args.one.now c.args.other.now front differ in
    let before = c.loop-front.invariant in
    (omega (arith, before.0), omega (arith, before.1), omega (arith, less))
