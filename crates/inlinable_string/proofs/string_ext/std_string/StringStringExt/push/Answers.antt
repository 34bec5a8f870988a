use Rattle.inlinable_string.proofs.Common.{refl, on_ok_weaker, IsUtf8-string_bytes, IsUtf8-encode}
use Rattle.inlinable_string.proofs.Text.{pushed-chars, size-string, size-pushed}
use Rattle.inlinable_string.proofs.Window.{chars_one, size_one}
use Rattle.inlinable_string.proofs.string_ext.std_string.StringStringExt.push.Goals as goal

pub returns-clause-text : goal.returns-clause-text
returns-clause-text c =
    let one = chars_one c.args.ch _ (IsUtf8-encode c.args.ch c.ranges.ch.0) refl in
    let u = IsUtf8-string_bytes c.args.self.now in
    rw one at (pushed-chars _ _ _ _ u c.push.ensures.bytes)

pub returns-clause-granted : goal.returns-clause-granted
returns-clause-granted c h = c.push.ensures.succeeds (rw (size-string, ← size_one) at h)

pub returns-clause-len : goal.returns-clause-len
returns-clause-len c =
    on_ok_weaker c.push.result (size-pushed _ _ _) (returns-clause-text c)
