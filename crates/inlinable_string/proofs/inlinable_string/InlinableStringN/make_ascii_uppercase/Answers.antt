use Rattle.inlinable_string.proofs.Common.{rules, IsUtf8-string_bytes}
use Rattle.inlinable_string.proofs.AsciiCase.{uppercased}
use Rattle.inlinable_string.proofs.Text.{holds_chars}
use Rattle.inlinable_string.proofs.inlinable_string.InlinableStringN.make_ascii_uppercase.Goals as goal

pub returns-in-Heap : goal.returns-in-Heap
returns-in-Heap g c =
    let h = holds_chars (IsUtf8-string_bytes c.in-Heap.text) in
    let new = uppercased h c.make_ascii_uppercase.ensures.bytes in
    rw c.in-Heap.is (search (rules, new.1, new.2, new.3))
