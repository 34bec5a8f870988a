use Rattle.inline_uses.proofs.Appended.{none_appended, appended_more, appended_kept, all_appended, all_but_last_appended, refused}
use Rattle.inline_uses.proofs.symbols.Symbols.intern_all.Goals as goal

pub loop-text-init : goal.loop-text-init
loop-text-init g c = (none_appended c.args.self.now c.args.ids.now.items, λ i known is. is)

pub loop-text-preserved : goal.loop-text-preserved
loop-text-preserved g c =
    let next = c.in_ok-intern_next.ensures.id in (
      appended_more _ _ _ _ _ _ c.in-Some.text next.0 c.intern_next.ensures.kept next.1 next.2
          c.loop-text.invariant.0,
      λ i known is. c.intern_next.ensures.kept i known (c.loop-text.invariant.1 i known is),
    )

pub returns-in_err-intern_next : goal.returns-in_err-intern_next
returns-in_err-intern_next g c =
    let known = c.in_err-intern_next.ensures in
    let same = appended_kept _ _ _ _ _ _ known.kept known.err c.loop-text.invariant.0 in
    let ended = refused _ c.from_residual.result c.from_residual.ensures.0
    (all_but_last_appended _ c.next.new.self _ c.in-Some.text
    c.into_iter-text-iterator.ensures.into_iter_gives c.loop-text.yielded_by _ _ _ same
    c.in-Some.ensures.steps) in
    record {
      ids = ended.0;
      err = ended.1;
      kept = λ i text is. known.kept i text (c.loop-text.invariant.1 i text is);
    }

pub returns : goal.returns
returns g c = record {
  ids = all_appended _ c.next.new.self _ c.into_iter-text-iterator.ensures.into_iter_gives
      c.loop-text.yielded_by _ _ _ c.loop-text.invariant.0 c.in-None.ensures.steps;
  err = tt;
  kept = c.loop-text.invariant.1;
}
