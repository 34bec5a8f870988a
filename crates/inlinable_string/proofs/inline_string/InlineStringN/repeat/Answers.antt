use Rattle.inlinable_string.proofs.Common.{◌≡◌, sym, arith, subst, [], rules, eqb-true, nil_from_length}
use Rattle.inlinable_string.proofs.Repeated.{Copies, copied, none, of_nothing, above}
use Rattle.inlinable_string.proofs.inline_string.InlineStringN.repeat.Goals as goal

pub returns-then-is_empty : goal.returns-then-is_empty
returns-then-is_empty g c =
    let nothing : c.args.string.now ≡ [] =
    nil_from_length _ (eqb-true _ 0 (sym c.if-is_empty.ensures)) in
    let all = of_nothing c.args.times _ _ nothing c.new-made.ensures in
    record {
      fits = rw nothing (omega arith);
      text = all.text;
      bytes = all.bytes;
      len = all.len;
    }

pub loop-init : goal.loop-init
loop-init g c =
    (none _ _ c.new-made.ensures, rw c.new-made.ensures (omega arith), omega arith)

pub loop-preserved : goal.loop-preserved
loop-preserved g c =
    let at = c.loop.invariant in
    let few = c.loop-test.true in (
      copied c.utf8.string at.0 c.in_ok-push_str.ensures.ok,
      omega (arith, c.in_ok-push_str.ensures.len, c.in_ok-push_str.ensures.fits),
      omega (arith, few),
    )

pub returns-in_err-push_str-clause-fits : goal.returns-in_err-push_str-clause-fits
returns-in_err-push_str-clause-fits g c =
    let few = c.loop-test.true in
    let over = above _ _ _ _ _ c.loop.invariant.0.len few c.in_err-push_str.ensures.fits in
    search (rules, over)

pub returns : goal.returns
returns g c =
    let at = c.loop.invariant in
    let left = c.loop-test.false in
    let same : c.loop.counter ≡ c.args.times = omega (arith, at.2, left) in
    let all = subst (λ k. Copies k c.args.string.now c.loop.made) same at.0 in
    record {
      fits = omega (arith, all.len, at.1);
      text = all.text;
      bytes = all.bytes;
      len = all.len;
    }
