use Rattle.inlinable_string.proofs.Common.{IsUtf8-string_bytes}
use Rattle.inlinable_string.proofs.Cut.{back_of_cut}
use Rattle.inlinable_string.proofs.Text.{bytes_are, holds_chars, boundary, cut_at, split_point}
use Rattle.inlinable_string.proofs.string_ext.std_string.StringStringExt.truncate.Goals as goal

pub truncate-requires : goal.truncate-requires
truncate-requires c _ = split_point (IsUtf8-string_bytes c.args.self.now) c.requires

pub returns-clause-text : goal.returns-clause-text
returns-clause-text c =
    let h = holds_chars (IsUtf8-string_bytes c.args.self.now) in
    (_, rw (← c.truncate.ensures.bytes) at (cut_at h _ (boundary h c.requires)))

pub returns-clause-len : goal.returns-clause-len
returns-clause-len c = (returns-clause-text c).1.before

pub returns-clause-back : goal.returns-clause-back
returns-clause-back c =
    let u = IsUtf8-string_bytes c.args.self.now in
    back_of_cut _ _ u (bytes_are (holds_chars u)) _ _ _ (returns-clause-text c).1
