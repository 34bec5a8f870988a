use Rattle.inlinable_string.proofs.Common.{◌∙◌, sym, ap, encodes-chars, IsUtf8-string_bytes}
use Rattle.std.specs.List.{slice_range}
use Rattle.inlinable_string.proofs.Text.{holds_chars, boundary}
use Rattle.inlinable_string.proofs.Ranges.{part_drained, size-drained}
use Rattle.inlinable_string.proofs.inlinable_string.InlinableStringN.drain.Goals as goal

pub range-requires-clause-start_boundary : goal.range-requires-clause-start_boundary
range-requires-clause-start_boundary g c _ =
    rw c.as_str.ensures.value
    (boundary (holds_chars (IsUtf8-string_bytes c.in-Heap.text))
    (rw c.in-Heap.is at c.requires.start))

pub range-requires-clause-end_boundary : goal.range-requires-clause-end_boundary
range-requires-clause-end_boundary g c =
    rw c.as_str.ensures.value
    (boundary (holds_chars (IsUtf8-string_bytes c.in-Heap.text))
    (rw c.in-Heap.is at c.requires.end))

pub returns-in_ok-part-in-Heap-clause-drained : goal.returns-in_ok-part-in-Heap-clause-drained
returns-in_ok-part-in-Heap-clause-drained g c =
    let utf8 = IsUtf8-string_bytes c.in-Heap.text in
    let part = c.range.ensures.value
    ∙ ap (λ s. slice_range s c.args.range.start c.args.range.end)
    (c.as_str.ensures.value ∙ sym (encodes-chars _ utf8)) in
    rw (c.in-Heap.is, c.in_ok-part-in-Heap.ensures.text)
    (part_drained c.range.utf8 part c.remove_on_heap.ensures.removed)

pub returns-in_ok-part-in-Heap-clause-len : goal.returns-in_ok-part-in-Heap-clause-len
returns-in_ok-part-in-Heap-clause-len g c =
    size-drained (returns-in_ok-part-in-Heap-clause-drained g c)

pub returns-in_ok-part-in-Heap-clause-capacity : goal.returns-in_ok-part-in-Heap-clause-capacity
returns-in_ok-part-in-Heap-clause-capacity g c = rw c.in-Heap.is c.remove_on_heap.ensures.room
