use Rattle.inlinable_string.proofs.Common.{IsUtf8-string_bytes}
use Rattle.inlinable_string.proofs.Text.{holds_chars, split_point, size-string, size-removed, place_left}
use Rattle.inlinable_string.proofs.Window.{removed}
use Rattle.inlinable_string.proofs.string_ext.std_string.StringStringExt.remove.Goals as goal

pub remove-requires-clause-boundary : goal.remove-requires-clause-boundary
remove-requires-clause-boundary c =
    split_point (IsUtf8-string_bytes c.args.self.now) c.requires.place

pub remove-requires-clause-in_bounds : goal.remove-requires-clause-in_bounds
remove-requires-clause-in_bounds c = rw size-string at c.requires.below

pub returns-clause-text : goal.returns-clause-text
returns-clause-text c =
    let h = holds_chars (IsUtf8-string_bytes c.args.self.now) in
    let e = c.remove.ensures.bytes in
    (removed h _ _ c.requires.place e.1 e.2).1

pub returns-clause-len : goal.returns-clause-len
returns-clause-len c = size-removed (returns-clause-text c)

pub returns-clause-at : goal.returns-clause-at
returns-clause-at c = place_left (returns-clause-text c)
