use Rattle.inlinable_string.proofs.Common.{on_ok_weaker, IsUtf8-string_bytes}
use Rattle.inlinable_string.proofs.Text.{pushed-chars, size-string, size-pushed_str, bytes-pushed_str, ascii-pushed_str}
use Rattle.inlinable_string.proofs.string_ext.std_string.StringStringExt.push_str.Goals as goal

pub returns-clause-text : goal.returns-clause-text
returns-clause-text c =
    pushed-chars _ _ _ _ (IsUtf8-string_bytes c.args.self.now) c.push_str.ensures.bytes

pub returns-clause-granted : goal.returns-clause-granted
returns-clause-granted c h = c.push_str.ensures.succeeds (rw size-string at h)

pub returns-clause-len : goal.returns-clause-len
returns-clause-len c =
    on_ok_weaker c.push_str.result (size-pushed_str c.utf8.string _ _) (returns-clause-text c)

pub returns-clause-bytes : goal.returns-clause-bytes
returns-clause-bytes c =
    on_ok_weaker c.push_str.result (bytes-pushed_str c.utf8.string _ _) (returns-clause-text c)

pub returns-clause-ascii : goal.returns-clause-ascii
returns-clause-ascii c a =
    on_ok_weaker c.push_str.result (ascii-pushed_str _ _ _ a) (returns-clause-text c)
