use Rattle.inlinable_string.proofs.Common.{refl, on_ok_weaker, IsUtf8-string_bytes, IsUtf8-encode}
use Rattle.inlinable_string.proofs.Text.{holds_chars, split_point, size-spliced, place_within, place_behind}
use Rattle.inlinable_string.proofs.Window.{char_held, inserted}
use Rattle.inlinable_string.proofs.string_ext.std_string.StringStringExt.insert.Goals as goal

pub insert-requires : goal.insert-requires
insert-requires c = split_point (IsUtf8-string_bytes c.args.self.now) c.requires

pub returns-clause-text : goal.returns-clause-text
returns-clause-text c =
    let h = holds_chars (IsUtf8-string_bytes c.args.self.now) in
    let ch = char_held {c = c.args.ch} (IsUtf8-encode c.args.ch c.ranges.ch.0) refl in
    on_ok_weaker c.insert.result (λ e. (inserted h ch c.requires e).1) c.insert.ensures.bytes

pub returns-clause-len : goal.returns-clause-len
returns-clause-len c = on_ok_weaker c.insert.result size-spliced (returns-clause-text c)

pub returns-clause-within : goal.returns-clause-within
returns-clause-within c = place_within _ _ c.requires

pub returns-clause-behind : goal.returns-clause-behind
returns-clause-behind c = on_ok_weaker c.insert.result place_behind (returns-clause-text c)
