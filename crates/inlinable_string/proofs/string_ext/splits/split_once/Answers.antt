use Rattle.inlinable_string.proofs.Splits.{none_passes, none_before, split_round}
use Rattle.inlinable_string.proofs.string_ext.splits.split_once.Goals as goal

pub returns-in_err-at-clause-none : goal.returns-in_err-at-clause-none
returns-in_err-at-clause-none g c =
    rw c.from_residual.ensures
    (none_passes c.as_str-string.utf8 c.as_str-string.ensures.text c.in_err-at.ensures.cases)

pub returns-clause-text : goal.returns-clause-text
returns-clause-text g c =
    let found = c.in_ok-at.ensures.cases in
    split_round c.as_str-string.utf8 c.as_str-string.ensures.text found.3 found.1.1
    c.range.ensures.value (rw c.len_utf8.ensures.value at c.range_from.ensures.value)

pub returns-clause-first : goal.returns-clause-first
returns-clause-first g c =
    none_before _ _ _ c.range.utf8 c.range.ensures.value c.in_ok-at.ensures.cases.1.0
