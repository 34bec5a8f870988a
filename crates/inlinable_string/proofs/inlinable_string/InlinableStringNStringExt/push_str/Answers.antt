use Rattle.inlinable_string.proofs.Common.{on_ok_weaker}
use Rattle.inlinable_string.proofs.Text.{bytes-pushed_str, ascii-pushed_str}
use Rattle.inlinable_string.proofs.inlinable_string.InlinableStringNStringExt.push_str.Goals as goal

pub returns-in-Err-clause-text : goal.returns-in-Err-clause-text
returns-in-Err-clause-text g c =
    rw (c.in-Inline.is, ← c.in-Err.ensures.err) c.promote_and_append.ensures.text

pub returns-in-Err-clause-bytes : goal.returns-in-Err-clause-bytes
returns-in-Err-clause-bytes g c =
    on_ok_weaker c.promote_and_append.result (bytes-pushed_str c.utf8.string _ _)
    (returns-in-Err-clause-text g c)

pub returns-in-Err-clause-ascii : goal.returns-in-Err-clause-ascii
returns-in-Err-clause-ascii g c a =
    on_ok_weaker c.promote_and_append.result (ascii-pushed_str _ _ _ a)
    (returns-in-Err-clause-text g c)
