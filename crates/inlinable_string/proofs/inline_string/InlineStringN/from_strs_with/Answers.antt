use Rattle.inlinable_string.proofs.Common.{[], refl, arith, rules, chars, text_of_strs_with}
use Rattle.inlinable_string.proofs.Added.{all_added, last_refused, full_when_new}
use Rattle.inlinable_string.proofs.Text.{ascii_chars}
use Rattle.inlinable_string.proofs.Separated.{text_of_strs_with-more}
use Rattle.inlinable_string.proofs.inline_string.InlineStringN.from_strs_with.Goals as goal

pub returns-in_err-push_both : goal.returns-in_err-push_both
returns-in_err-push_both g c =
    let at = c.loop-string.invariant in
    let separator = chars c.args.separator.now in
    let more = text_of_strs_with-more separator c.loop-string.yielded c.in-Some.string in
    let end = last_refused (text_of_strs_with separator) _ c.next.new.self _
    c.into_iter-string-iterator.ensures.into_iter_gives c.loop-string.yielded_by [] _ at.1
    c.from_residual.result _ _ _ _ c.in-Some.string (rw (← at.2) at more) refl
    c.in_err-push_both.ensures.fits refl c.in-Some.ensures.steps in
    record {
      text = search rules;
      err = full_when_new (text_of_strs_with separator) _ _ _ _ c.from_residual.result end.0;
      granted = λ fits. end.1 (λ run seen from. omega (arith, fits run seen from));
      ascii = ascii_chars;
    }

pub returns-clause-text : goal.returns-clause-text
returns-clause-text g c =
    all_added (text_of_strs_with (chars c.args.separator.now)) _ c.next.new.self _
    c.into_iter-string-iterator.ensures.into_iter_gives c.loop-string.yielded_by [] _
    c.loop-string.invariant.1 c.in-None.ensures.steps
