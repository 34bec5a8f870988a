use Rattle.inlinable_string.proofs.Common.{text_of_char_refs, inlinable_state}
use Rattle.inlinable_string.proofs.Extended.{Grown}
use Rattle.inlinable_string.proofs.inlinable_string.InlinableStringN.extend_char_refs.Given as goal

abbrev pub invariant-loop-ch : goal.invariant-loop-ch
invariant-loop-ch g l =
    Grown (inlinable_state g.row.N l.fn.self) (text_of_char_refs l.yielded)
    (inlinable_state g.row.N l.self)
