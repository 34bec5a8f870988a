use Rattle.inlinable_string.proofs.Common.{sym, ap, ◌∙◌, IsUtf8-string_bytes, storage_when_made, inlinable_policy}
use Rattle.inlinable_string.proofs.Text.{size-chars}
use Rattle.inlinable_string.proofs.conversions.InlinableStringNFromString.from.Goals as goal

pub returns : goal.returns
returns g c =
    let made = c.from_string.ensures in
    let long = size-chars _ (IsUtf8-string_bytes c.args.string) in
    let storage = made.storage ∙ ap (storage_when_made (inlinable_policy g.row.N)) (sym long) in
    (made.text, storage, made.room)
