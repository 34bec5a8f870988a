use Rattle.inlinable_string.proofs.Common.{text_of_strs}
use Rattle.inlinable_string.proofs.Text.{size-chars}
use Rattle.inlinable_string.proofs.Added.{all_added, last_refused}
use Rattle.inlinable_string.proofs.Extended.{text_of_strs-more, not_ok}
use Rattle.inlinable_string.proofs.inline_string.InlineStringN.extend_strs.Goals as goal

pub returns-in_err-push_str : goal.returns-in_err-push_str
returns-in_err-push_str g c =
    let known = c.utf8_param.ensures in
    let push = c.in_err-push_str.ensures in
    let end = last_refused text_of_strs _ c.next.new.self _
    c.into_iter-string-iterator.ensures.into_iter_gives c.loop-string.yielded_by _ _
    c.loop-string.invariant c.from_residual.result _ _ _ _ c.in-Some.string
    (text_of_strs-more _ c.in-Some.string) (size-chars _ known.utf8)
    (rw known.value at push.fits) push.err c.in-Some.ensures.steps in
    record { ok = not_ok _ _ c.from_residual.ensures.0; err = end.0; granted = end.1 }

pub returns-clause-ok : goal.returns-clause-ok
returns-clause-ok g c =
    all_added text_of_strs _ c.next.new.self _ c.into_iter-string-iterator.ensures.into_iter_gives
    c.loop-string.yielded_by _ _ c.loop-string.invariant c.in-None.ensures.steps
