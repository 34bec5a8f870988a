use Rattle.inlinable_string.proofs.Common.{on_ok_weaker, IsUtf8-string_bytes}
use Rattle.inlinable_string.proofs.Text.{holds_chars, split_point, size-spliced_str, ascii-spliced_str, place_within, place_behind_str}
use Rattle.inlinable_string.proofs.Window.{inserted}
use Rattle.inlinable_string.proofs.string_ext.std_string.StringStringExt.insert_str.Goals as goal

pub insert_str-requires : goal.insert_str-requires
insert_str-requires c = split_point (IsUtf8-string_bytes c.args.self.now) c.requires

pub returns-clause-text : goal.returns-clause-text
returns-clause-text c =
    let h = holds_chars (IsUtf8-string_bytes c.args.self.now) in
    let added = holds_chars c.utf8.string in
    on_ok_weaker c.insert_str.result (λ e. (inserted h added c.requires e).1)
    c.insert_str.ensures.bytes

pub returns-clause-len : goal.returns-clause-len
returns-clause-len c =
    on_ok_weaker c.insert_str.result (size-spliced_str c.utf8.string) (returns-clause-text c)

pub returns-clause-within : goal.returns-clause-within
returns-clause-within c = place_within _ _ c.requires

pub returns-clause-behind : goal.returns-clause-behind
returns-clause-behind c =
    on_ok_weaker c.insert_str.result (place_behind_str c.utf8.string) (returns-clause-text c)

pub returns-clause-ascii : goal.returns-clause-ascii
returns-clause-ascii c a =
    on_ok_weaker c.insert_str.result (ascii-spliced_str _ a) (returns-clause-text c)
