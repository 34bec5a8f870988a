use Rattle.inlinable_string.proofs.Common.{arith, append-nil, chars-nil}
use Rattle.inlinable_string.proofs.Ranges.{granted}
use Rattle.inlinable_string.proofs.inlinable_string.replaced.remove_on_heap.Goals as goal

pub returns : goal.returns
returns c =
    let is = c.replace_on_heap.ensures.granted (omega (arith, c.len.ensures.laws.within)) in
    record {
      removed = rw chars-nil at
          (granted c.replace_on_heap.result is c.replace_on_heap.ensures.text);
      bytes = rw append-nil at
          (granted c.replace_on_heap.result is c.replace_on_heap.ensures.bytes);
      room = granted c.replace_on_heap.result is c.replace_on_heap.ensures.room;
    }
