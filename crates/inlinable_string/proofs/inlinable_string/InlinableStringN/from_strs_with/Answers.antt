use Rattle.inlinable_string.proofs.Common.{refl, arith, rules, chars, text_of_strs_with, inlinable_state}
use Rattle.inlinable_string.proofs.Extended.{empty_state, grown_more, finished, stopped, above_when_empty}
use Rattle.inlinable_string.proofs.Text.{ascii_chars}
use Rattle.inlinable_string.proofs.Separated.{text_of_strs_with-more, before_next-more}
use Rattle.inlinable_string.proofs.inlinable_string.InlinableStringN.from_strs_with.Goals as goal

pub loop-string-preserved : goal.loop-string-preserved
loop-string-preserved g c =
    let at = c.loop-string.invariant in
    let separator = chars c.args.separator.now in
    let more = text_of_strs_with-more separator c.loop-string.yielded c.in-Some.string in
    let pushed = c.in_ok-push_both.ensures in (
      c.utf8.separator,
      grown_more _ _ _ _ _ _ _ at.1 (rw (← at.2) at more) refl pushed.text pushed.storage
          pushed.room pushed.policy,
      before_next-more separator c.loop-string.yielded c.in-Some.string,
    )

pub returns-in_err-push_both : goal.returns-in_err-push_both
returns-in_err-push_both g c =
    let at = c.loop-string.invariant in
    let separator = chars c.args.separator.now in
    let made = inlinable_state g.row.N c.loop-string.made in
    let more = text_of_strs_with-more separator c.loop-string.yielded c.in-Some.string in
    let end = stopped (text_of_strs_with separator) _ c.next.new.self _
    c.into_iter-string-iterator.ensures.into_iter_gives c.loop-string.yielded_by
    (empty_state g.row.N) c.from_residual.result c.from_residual.ensures.0 made made
    c.in-Some.string _ _ at.1 (rw (← at.2) at more) refl c.in_err-push_both.ensures.granted
    (record { text = refl; storage = refl }) c.in-Some.ensures.steps in
    record {
      text = search rules;
      storage = search rules;
      err = above_when_empty (text_of_strs_with separator) _ _ g.row.N made
          c.from_residual.result end.0;
      granted = λ fits. end.1 (λ run seen from. omega (arith, fits run seen from));
      ascii = ascii_chars;
    }

pub returns-clause-text : goal.returns-clause-text
returns-clause-text g c =
    let run = finished (text_of_strs_with (chars c.args.separator.now)) _ c.next.new.self _
    c.into_iter-string-iterator.ensures.into_iter_gives c.loop-string.yielded_by
    (empty_state g.row.N) _ c.loop-string.invariant.1 c.in-None.ensures.steps in
    (run.0, run.1, run.2, run.3.text)
