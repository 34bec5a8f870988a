use Rattle.inlinable_string.proofs.Common.{◌∙◌, sym, ap, take, encodes-chars, IsUtf8-string_bytes}
use Rattle.std.specs.Str.{trim_end}
use Rattle.inlinable_string.proofs.Cut.{place_of_taken}
use Rattle.inlinable_string.proofs.Text.{split_point}
use Rattle.inlinable_string.proofs.Trimmed.{bytes-left, text-left}
use Rattle.inlinable_string.proofs.inlinable_string.InlinableStringN.trim_end_in_place.Goals as goal

pub truncate-requires : goal.truncate-requires
truncate-requires g c _ =
    let utf8 = IsUtf8-string_bytes c.in-Heap.text in
    let s = c.as_str.ensures.value ∙ sym (encodes-chars _ utf8) in
    let rest = c.trim_end-end.ensures.value in
    split_point utf8
    (place_of_taken _ _ c.as_str.utf8 s _ rest.0 c.trim_end-end.utf8 rest.1)

pub returns-in-Heap-clause-bytes : goal.returns-in-Heap-clause-bytes
returns-in-Heap-clause-bytes g c =
    let utf8 = IsUtf8-string_bytes c.in-Heap.text in
    let s = c.as_str.ensures.value ∙ sym (encodes-chars _ utf8) in
    let rest = c.trim_end-end.ensures.value in
    let bytes = encodes-chars _ (IsUtf8-string_bytes c.truncate.new.self)
    ∙ c.truncate.ensures.bytes ∙ ap (take _) (sym c.as_str.ensures.value)
    ∙ ap (λ n. take n c.as_str.result.now) rest.4 ∙ sym rest.1 in
    rw c.in-Heap.is
    (bytes-left _ _ trim_end s c.trim_end-end.utf8 bytes c.trim_end-end.ensures.trim)

pub returns-in-Heap-clause-text : goal.returns-in-Heap-clause-text
returns-in-Heap-clause-text g c =
    let utf8 = IsUtf8-string_bytes c.in-Heap.text in
    let s = c.as_str.ensures.value ∙ sym (encodes-chars _ utf8) in
    let rest = c.trim_end-end.ensures.value in
    let bytes = encodes-chars _ (IsUtf8-string_bytes c.truncate.new.self)
    ∙ c.truncate.ensures.bytes ∙ ap (take _) (sym c.as_str.ensures.value)
    ∙ ap (λ n. take n c.as_str.result.now) rest.4 ∙ sym rest.1 in
    rw c.in-Heap.is
    (text-left _ _ trim_end s c.trim_end-end.utf8 bytes c.trim_end-end.ensures.trim)
