use Rattle.inlinable_string.proofs.Common.{on_ok_weaker, refl}
use Rattle.inlinable_string.proofs.Text.{size-pushed_str}
use Rattle.inlinable_string.proofs.inlinable_string.InlinableStringN.promote_and_append.Goals as goal

pub returns-then-is_empty-clause-text : goal.returns-then-is_empty-clause-text
returns-then-is_empty-clause-text g c =
    rw (c.in-Inline.is, c.if-is_empty.ensures.text.0 refl) c.become_copy.ensures.text

pub returns-then-is_empty-clause-len : goal.returns-then-is_empty-clause-len
returns-then-is_empty-clause-len g c =
    on_ok_weaker c.become_copy.result (size-pushed_str c.utf8.added _ _)
    (returns-then-is_empty-clause-text g c)
