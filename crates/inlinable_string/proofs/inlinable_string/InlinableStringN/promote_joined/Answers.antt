use Rattle.inlinable_string.proofs.Common.{ap, ◌∙◌, ◌++◌, chars, chars-append}
use Rattle.inlinable_string.proofs.Text.{size-pushed_str}
use Rattle.inlinable_string.proofs.inlinable_string.InlinableStringN.promote_joined.Goals as goal

pub returns-clause-text : goal.returns-clause-text
returns-clause-text g c =
    rw c.in-Inline.is
    (c.become_heap.ensures.text ∙ ap chars c.in_ok-heap.ensures.bytes
    ∙ chars-append _ _ c.as_str.utf8
    ∙ ap (λ t. t ++ chars c.args.added.now) c.as_str.ensures.text)

pub returns-clause-len : goal.returns-clause-len
returns-clause-len g c = size-pushed_str c.utf8.added _ _ (returns-clause-text g c)
