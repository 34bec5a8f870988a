use Rattle.inlinable_string.proofs.Common.{refl, text_of_char_refs}
use Rattle.inlinable_string.proofs.Extended.{text_of_char_refs-more, grown_more, finished, stopped, not_ok}
use Rattle.inlinable_string.proofs.inlinable_string.InlinableStringN.extend_char_refs.Goals as goal

pub loop-ch-preserved : goal.loop-ch-preserved
loop-ch-preserved g c =
    grown_more _ _ _ _ _ _ _ c.loop-ch.invariant (text_of_char_refs-more _ c.in-Some.ch) refl
    c.in_ok-push.ensures.text c.in_ok-push.ensures.storage c.in_ok-push.ensures.room
    c.push.ensures.policy

pub returns-in_err-push : goal.returns-in_err-push
returns-in_err-push g c =
    let end = stopped text_of_char_refs _ c.next.new.self _
    c.into_iter-ch-iterator.ensures.into_iter_gives c.loop-ch.yielded_by _
    c.from_residual.result c.from_residual.ensures.0 _ _ c.in-Some.ch _ _ c.loop-ch.invariant
    (text_of_char_refs-more _ c.in-Some.ch) refl c.in_err-push.ensures.granted
    c.in_err-push.ensures.err c.in-Some.ensures.steps in
    record { ok = not_ok _ _ end.2; err = end.0; granted = end.1; room = not_ok _ _ end.2 }

pub returns-clause-ok : goal.returns-clause-ok
returns-clause-ok g c =
    finished text_of_char_refs _ c.next.new.self _
    c.into_iter-ch-iterator.ensures.into_iter_gives c.loop-ch.yielded_by _ _ c.loop-ch.invariant
    c.in-None.ensures.steps
