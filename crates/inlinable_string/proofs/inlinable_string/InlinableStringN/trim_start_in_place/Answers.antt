use Rattle.inlinable_string.proofs.Common.{◌∙◌, sym, encodes-chars, IsUtf8-string_bytes}
use Rattle.std.specs.Str.{trim_start}
use Rattle.inlinable_string.proofs.Cut.{place_of_rest}
use Rattle.inlinable_string.proofs.Trimmed.{bytes-dropped, bytes-left, text-left}
use Rattle.inlinable_string.proofs.inlinable_string.InlinableStringN.trim_start_in_place.Goals as goal

pub remove_on_heap-requires-clause-end : goal.remove_on_heap-requires-clause-end
remove_on_heap-requires-clause-end g c =
    let utf8 = IsUtf8-string_bytes c.in-Heap.text in
    let s = c.as_str-string.ensures.value ∙ sym (encodes-chars _ utf8) in
    let rest = c.trim_start.ensures.value in
    place_of_rest _ _ c.as_str-string.utf8 s _ rest.0 c.trim_start.utf8 rest.1

pub returns-in-Heap-clause-text : goal.returns-in-Heap-clause-text
returns-in-Heap-clause-text g c =
    let utf8 = IsUtf8-string_bytes c.in-Heap.text in
    let s = c.as_str-string.ensures.value ∙ sym (encodes-chars _ utf8) in
    let rest = c.trim_start.ensures.value in
    rw c.in-Heap.is
    (text-left _ _ trim_start s c.trim_start.utf8
    (bytes-dropped _ _ rest.0 s rest.1 c.remove_on_heap.ensures.bytes) c.trim_start.ensures.trim)

pub returns-in-Heap-clause-bytes : goal.returns-in-Heap-clause-bytes
returns-in-Heap-clause-bytes g c =
    let utf8 = IsUtf8-string_bytes c.in-Heap.text in
    let s = c.as_str-string.ensures.value ∙ sym (encodes-chars _ utf8) in
    let rest = c.trim_start.ensures.value in
    rw c.in-Heap.is
    (bytes-left _ _ trim_start s c.trim_start.utf8
    (bytes-dropped _ _ rest.0 s rest.1 c.remove_on_heap.ensures.bytes) c.trim_start.ensures.trim)

pub returns-in-Heap-clause-capacity : goal.returns-in-Heap-clause-capacity
returns-in-Heap-clause-capacity g c = rw c.in-Heap.is c.remove_on_heap.ensures.room
