use Rattle.inlinable_string.proofs.Common.{text_of_strs}
use Rattle.inlinable_string.proofs.Extended.{Grown}
use Rattle.inlinable_string.proofs.string_ext.joins.extend_strs.Given as goal

abbrev pub invariant-loop-string : goal.invariant-loop-string
invariant-loop-string g l =
    Grown (g.S.StringExt.state l.fn.text) (text_of_strs l.yielded) (g.S.StringExt.state l.text)
