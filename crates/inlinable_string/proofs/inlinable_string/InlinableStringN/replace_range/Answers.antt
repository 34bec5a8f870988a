use Rattle.inlinable_string.proofs.Common.{rules, on_ok_weaker}
use Rattle.inlinable_string.proofs.Text.{place_within}
use Rattle.inlinable_string.proofs.Ranges.{ascii-replaced, place_past_str, size-replaced_str}
use Rattle.inlinable_string.proofs.inlinable_string.InlinableStringN.replace_range.Goals as goal

pub returns-in-Heap-clause-ascii : goal.returns-in-Heap-clause-ascii
returns-in-Heap-clause-ascii g c a =
    rw c.in-Heap.is
    (on_ok_weaker c.replace_on_heap.result (ascii-replaced _ a) c.replace_on_heap.ensures.text)

pub returns-in-Heap-clause-len : goal.returns-in-Heap-clause-len
returns-in-Heap-clause-len g c =
    rw c.in-Heap.is
    (on_ok_weaker c.replace_on_heap.result (size-replaced_str c.utf8.replace_with)
    c.replace_on_heap.ensures.text)

pub returns-in-Heap-clause-within : goal.returns-in-Heap-clause-within
returns-in-Heap-clause-within g c = place_within _ _ c.requires.end

pub returns-in-Heap-clause-behind : goal.returns-in-Heap-clause-behind
returns-in-Heap-clause-behind g c =
    on_ok_weaker c.replace_on_heap.result (place_past_str c.utf8.replace_with)
    c.replace_on_heap.ensures.text

pub returns-in-Err-clause-text : goal.returns-in-Err-clause-text
returns-in-Err-clause-text g c = search rules

pub returns-in-Err-clause-ascii : goal.returns-in-Err-clause-ascii
returns-in-Err-clause-ascii g c a =
    on_ok_weaker c.promote_and_replace.result (ascii-replaced _ a) (returns-in-Err-clause-text g c)

pub returns-in-Err-clause-behind : goal.returns-in-Err-clause-behind
returns-in-Err-clause-behind g c =
    on_ok_weaker c.promote_and_replace.result (place_past_str c.utf8.replace_with)
    (returns-in-Err-clause-text g c)
