use Rattle.inlinable_string.proofs.Common.{IsUtf8-string_bytes}
use Rattle.inlinable_string.proofs.Repeated.{copies_of}
use Rattle.inlinable_string.proofs.inlinable_string.InlinableStringN.repeat.Goals as goal

pub returns-clause-text : goal.returns-clause-text
returns-clause-text g c =
    (copies_of _ c.utf8.string (IsUtf8-string_bytes c.in_ok-text.text)
    c.in_ok-text.ensures.bytes).text

pub returns-clause-bytes : goal.returns-clause-bytes
returns-clause-bytes g c =
    (copies_of _ c.utf8.string (IsUtf8-string_bytes c.in_ok-text.text)
    c.in_ok-text.ensures.bytes).bytes

pub returns-clause-len : goal.returns-clause-len
returns-clause-len g c =
    (copies_of _ c.utf8.string (IsUtf8-string_bytes c.in_ok-text.text)
    c.in_ok-text.ensures.bytes).len
