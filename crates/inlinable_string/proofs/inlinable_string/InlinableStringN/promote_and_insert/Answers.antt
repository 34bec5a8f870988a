use Rattle.inlinable_string.proofs.Text.{holds, holds_chars, boundary, size-spliced_str}
use Rattle.inlinable_string.proofs.Window.{inserted}
use Rattle.inlinable_string.proofs.inlinable_string.InlinableStringN.promote_and_insert.Goals as goal

pub insert_to_heap-requires : goal.insert_to_heap-requires
insert_to_heap-requires g c =
    boundary (holds c.as_str.utf8 c.as_str.ensures.value) (rw c.in-Inline.is at c.requires.place)

pub returns-clause-text : goal.returns-clause-text
returns-clause-text g c =
    let h = holds c.as_str.utf8 c.as_str.ensures.value in
    let place = rw c.in-Inline.is at c.requires.place in
    rw c.in-Inline.is
    (inserted h (holds_chars c.utf8.added) place c.in_ok-heap.ensures.bytes).1

pub returns-clause-len : goal.returns-clause-len
returns-clause-len g c = size-spliced_str c.utf8.added (returns-clause-text g c)
