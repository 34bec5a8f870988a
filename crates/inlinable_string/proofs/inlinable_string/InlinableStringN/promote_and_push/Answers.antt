use Rattle.inlinable_string.proofs.Common.{refl, ap, ◌∙◌, ◌++◌, chars, chars-append, encode_utf8, IsUtf8-encode}
use Rattle.inlinable_string.proofs.Text.{size-pushed}
use Rattle.inlinable_string.proofs.Window.{chars_one}
use Rattle.inlinable_string.proofs.inlinable_string.InlinableStringN.promote_and_push.Goals as goal

pub returns-clause-text : goal.returns-clause-text
returns-clause-text g c =
    let one = chars_one c.args.ch _ (IsUtf8-encode c.args.ch c.ranges.ch.0) refl in
    rw c.in-Inline.is
    (ap chars (c.in_ok-push.ensures.bytes
    ∙ ap (λ bs. bs ++ encode_utf8 c.args.ch) c.in_ok-heap.ensures.bytes)
    ∙ chars-append _ _ c.as_str.utf8
    ∙ rw (one, c.as_str.ensures.text) refl)

pub returns-clause-len : goal.returns-clause-len
returns-clause-len g c = size-pushed _ _ _ (returns-clause-text g c)
