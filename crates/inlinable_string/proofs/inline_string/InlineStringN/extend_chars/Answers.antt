use Rattle.inlinable_string.proofs.Common.{refl, text_of_chars}
use Rattle.inlinable_string.proofs.Added.{all_added, last_refused}
use Rattle.inlinable_string.proofs.Extended.{not_ok}
use Rattle.inlinable_string.proofs.inline_string.InlineStringN.extend_chars.Goals as goal

pub returns-in_err-push : goal.returns-in_err-push
returns-in_err-push g c =
    let push = c.in_err-push.ensures in
    let end = last_refused text_of_chars _ c.next.new.self _
    c.into_iter-ch-iterator.ensures.into_iter_gives c.loop-ch.yielded_by _ _
    c.loop-ch.invariant c.from_residual.result _ _ _ _ c.in-Some.ch refl refl push.fits
    push.err c.in-Some.ensures.steps in
    record { ok = not_ok _ _ c.from_residual.ensures.0; err = end.0; granted = end.1 }

pub returns-clause-ok : goal.returns-clause-ok
returns-clause-ok g c =
    all_added text_of_chars _ c.next.new.self _ c.into_iter-ch-iterator.ensures.into_iter_gives
    c.loop-ch.yielded_by _ _ c.loop-ch.invariant c.in-None.ensures.steps
