use Rattle.inlinable_string.proofs.Common.{text_of_chars}
use Rattle.inlinable_string.proofs.Extended.{Grown}
use Rattle.inlinable_string.proofs.string_ext.joins.extend_chars.Given as goal

abbrev pub invariant-loop-ch : goal.invariant-loop-ch
invariant-loop-ch g l =
    Grown (g.S.StringExt.state l.fn.text) (text_of_chars l.yielded) (g.S.StringExt.state l.text)
