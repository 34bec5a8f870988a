use Rattle.inlinable_string.proofs.Common.{sym, text_of_strs}
use Rattle.inlinable_string.proofs.Text.{size-chars}
use Rattle.inlinable_string.proofs.Extended.{text_of_strs-more, grown_more, finished, stopped, not_ok}
use Rattle.inlinable_string.proofs.string_ext.joins.extend_strs.Goals as goal

pub loop-string-preserved : goal.loop-string-preserved
loop-string-preserved g c =
    let known = c.utf8_param.ensures in
    let push = c.in_ok-push_str.ensures in
    grown_more _ _ _ _ _ _ _ c.loop-string.invariant (text_of_strs-more _ c.in-Some.string)
    (sym (size-chars _ known.utf8)) (rw known.value at push.text) (rw known.value at push.storage)
    push.room c.push_str.ensures.policy

pub returns-in_err-push_str : goal.returns-in_err-push_str
returns-in_err-push_str g c =
    let known = c.utf8_param.ensures in
    let push = c.in_err-push_str.ensures in
    let end = stopped text_of_strs _ c.next.new.self _
    c.into_iter-string-iterator.ensures.into_iter_gives c.loop-string.yielded_by _
    c.from_residual.result c.from_residual.ensures.0 _ _ c.in-Some.string _ _
    c.loop-string.invariant (text_of_strs-more _ c.in-Some.string) (sym (size-chars _ known.utf8))
    (rw known.value at push.granted) push.err c.in-Some.ensures.steps in
    record { ok = not_ok _ _ end.2; err = end.0; granted = end.1; room = not_ok _ _ end.2 }

pub returns-clause-ok : goal.returns-clause-ok
returns-clause-ok g c =
    finished text_of_strs _ c.next.new.self _ c.into_iter-string-iterator.ensures.into_iter_gives
    c.loop-string.yielded_by _ _ c.loop-string.invariant c.in-None.ensures.steps
