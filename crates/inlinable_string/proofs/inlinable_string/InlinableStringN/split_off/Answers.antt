use Rattle.inlinable_string.proofs.Common.{◌∙◌, ap, arith, length, drop, chars, IsUtf8-string_bytes}
use Rattle.inlinable_string.proofs.Parts.{size_of_back, front_bytes, back_bytes, split_at_place}
use Rattle.inlinable_string.proofs.Text.{holds_chars, boundary, split_point, size-string}
use Rattle.inlinable_string.proofs.inlinable_string.InlinableStringN.split_off.Goals as goal

pub range_from-requires : goal.range_from-requires
range_from-requires g c _ =
    rw c.as_str.ensures.value
    (boundary (holds_chars (IsUtf8-string_bytes c.in-Heap.text)) (rw c.in-Heap.is at c.requires))

pub returns-in_err-tail-in-Heap-clause-granted : goal.returns-in_err-tail-in-Heap-clause-granted
returns-in_err-tail-in-Heap-clause-granted g c fits =
    let long = rw (c.in-Heap.is, size-string) at fits in
    let never = c.in_err-tail-in-Heap.ensures.granted
    (omega (arith, long, c.range_from.ensures.len, ap length c.as_str.ensures.value)) in
    cc

pub truncate-requires : goal.truncate-requires
truncate-requires g c _ =
    split_point (IsUtf8-string_bytes c.in-Heap.text) (rw c.in-Heap.is at c.requires)

pub returns-in_ok-tail-in-Heap-clause-text : goal.returns-in_ok-tail-in-Heap-clause-text
returns-in_ok-tail-in-Heap-clause-text g c =
    let tail = c.in_ok-tail-in-Heap.ensures.text ∙ ap chars c.range_from.ensures.value
    ∙ ap (λ bs. chars (drop c.args.at bs)) c.as_str.ensures.value in
    rw c.in-Heap.is
    (split_at_place (IsUtf8-string_bytes c.in-Heap.text) (rw c.in-Heap.is at c.requires)
    c.truncate.ensures.bytes tail)

pub returns-in_ok-tail-in-Heap-clause-tail_len : goal.returns-in_ok-tail-in-Heap-clause-tail_len
returns-in_ok-tail-in-Heap-clause-tail_len g c =
    size_of_back (returns-in_ok-tail-in-Heap-clause-text g c)

pub returns-in_ok-tail-in-Heap-clause-front : goal.returns-in_ok-tail-in-Heap-clause-front
returns-in_ok-tail-in-Heap-clause-front g c =
    front_bytes (returns-in_ok-tail-in-Heap-clause-text g c)

pub returns-in_ok-tail-in-Heap-clause-back : goal.returns-in_ok-tail-in-Heap-clause-back
returns-in_ok-tail-in-Heap-clause-back g c =
    back_bytes (returns-in_ok-tail-in-Heap-clause-text g c)
