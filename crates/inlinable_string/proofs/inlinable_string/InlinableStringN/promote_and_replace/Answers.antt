use Rattle.inlinable_string.proofs.Text.{holds, holds_chars, boundary}
use Rattle.inlinable_string.proofs.Ranges.{range-bytes, range-chars}
use Rattle.inlinable_string.proofs.inlinable_string.InlinableStringN.promote_and_replace.Goals as goal

pub replace_to_heap-requires-clause-start : goal.replace_to_heap-requires-clause-start
replace_to_heap-requires-clause-start g c =
    boundary (holds c.as_str.utf8 c.as_str.ensures.value) (rw c.in-Inline.is at c.requires.start)

pub replace_to_heap-requires-clause-end : goal.replace_to_heap-requires-clause-end
replace_to_heap-requires-clause-end g c =
    boundary (holds c.as_str.utf8 c.as_str.ensures.value) (rw c.in-Inline.is at c.requires.end)

pub returns-clause-text : goal.returns-clause-text
returns-clause-text g c =
    let h = holds c.as_str.utf8 c.as_str.ensures.value in
    let start = rw c.in-Inline.is at c.requires.start in
    let end = rw c.in-Inline.is at c.requires.end in
    rw c.in-Inline.is
    (range-chars h (holds_chars c.utf8.added) start end c.requires.order
    c.in_ok-heap.ensures.bytes)

pub returns-clause-bytes : goal.returns-clause-bytes
returns-clause-bytes g c =
    let h = holds c.as_str.utf8 c.as_str.ensures.value in
    let start = rw c.in-Inline.is at c.requires.start in
    let end = rw c.in-Inline.is at c.requires.end in
    rw c.in-Inline.is
    (range-bytes h (holds_chars c.utf8.added) start end c.requires.order
    c.in_ok-heap.ensures.bytes)
