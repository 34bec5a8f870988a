use Rattle.inlinable_string.proofs.inlinable_string.InlinableStringNStringExt.as_str.Goals as goal

pub returns-in-Heap-clause-places : goal.returns-in-Heap-clause-places
returns-in-Heap-clause-places g c = rw c.in-Heap.is c.as_str.ensures.places

pub returns-in-Inline-clause-places : goal.returns-in-Inline-clause-places
returns-in-Inline-clause-places g c = rw c.in-Inline.is c.as_str-in-Inline.ensures.places
