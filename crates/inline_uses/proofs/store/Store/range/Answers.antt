use Rattle.inline_uses.proofs.Names.{arith, drop-map, is_gt, key_order, not, refl, sym, take-map, ◌&&◌, ◌-◌}
use Rattle.inline_uses.proofs.Search.{run}
use Rattle.inline_uses.proofs.store.Store.range.Goals as goal

pub returns-clause-between : goal.returns-clause-between
returns-clause-between c =
    let es = c.args.self.now in
    let start = c.first_from-start in
    let end = c.first_from in
    rw (c.as_slice.ensures, ← take-map, ← drop-map, c.self.view_is)
    (sym (run (λ k. not (is_gt (key_order c.args.from.now k)) && is_gt (key_order c.args.to.now k))
    es start.result (c.max-end.result - start.result)
    (λ k l b. rw (start.ensures.below k l) refl)
    (λ k l m b. rw (
      start.ensures.above k l b,
      end.ensures.below k (omega (
        arith,
        c.max-end.ensures,
      )),
    ) refl)
    (λ k l b. rw (
      start.ensures.above k (omega (arith, c.max-end.ensures)) b,
      end.ensures.above k
          (omega (arith, c.max-end.ensures)) b,
    ) refl)))
