use Rattle.inlinable_string.proofs.Common.{IsUtf8-string_bytes}
use Rattle.std.proofs.lemmas.Fn.{filter_same}
use Rattle.inlinable_string.proofs.Retained.{retained-chars, size-retained}
use Rattle.inlinable_string.proofs.inlinable_string.InlinableStringN.retain.Goals as goal

pub returns-in-Heap-clause-text : goal.returns-in-Heap-clause-text
returns-in-Heap-clause-text g c =
    rw c.in-Heap.is
    (retained-chars g.F.FnMut _ (IsUtf8-string_bytes c.in-Heap.text)
    (IsUtf8-string_bytes c.retain.new.self) c.retain.ensures.filtered)

pub returns-in-Heap-clause-bound : goal.returns-in-Heap-clause-bound
returns-in-Heap-clause-bound g c = size-retained _ _ _ _ (returns-in-Heap-clause-text g c)

pub returns-in-Heap-clause-filtered : goal.returns-in-Heap-clause-filtered
returns-in-Heap-clause-filtered g c test says =
    filter_same _ test _ says _ _ (returns-in-Heap-clause-text g c)
