use Rattle.inline_uses.proofs.Names.{arith, refl, rules, slice_get_read, ◌<◌}
use Rattle.inline_uses.proofs.InRuns.{later_there}
use Rattle.inline_uses.proofs.Spots.{with_later}
use Rattle.inline_uses.proofs.index.Index.run_mut.Goals as goal

pub returns : goal.returns
returns c =
    let self = c.args.self.now in
    let past : 0 < c.args.at = search rules in
    let within = c.requires in (
      (refl, λ run. with_later self c.args.at run past),
      record {
        writes_back = tt;
        value = later_there self.first self.later.items c.args.at c.index_mut.result.now past
            (slice_get_read self.later.items _ _ c.index_mut.result.now refl
            (omega (arith, past, within)) c.index_mut.ensures.value);
      },
    )
