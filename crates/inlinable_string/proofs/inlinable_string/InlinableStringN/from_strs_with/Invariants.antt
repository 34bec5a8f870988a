use Rattle.inlinable_string.proofs.Common.{◌≡◌, chars, text_of_strs_with, inlinable_state}
use denote.Shadow.{shadow}
use denote.Text.{Utf8}
use Rattle.inlinable_string.proofs.Extended.{Grown, empty_state}
use Rattle.inlinable_string.proofs.Separated.{before_next}
use Rattle.inlinable_string.proofs.inlinable_string.InlinableStringN.from_strs_with.Given as goal

abbrev pub invariant-loop-string : goal.invariant-loop-string
invariant-loop-string g l =
    shadow (Utf8 l.before)
    × Grown (empty_state g.row.N) (text_of_strs_with (chars l.fn.separator) l.yielded)
    (inlinable_state g.row.N l.made)
    × (chars l.before ≡ before_next (chars l.fn.separator) l.yielded)
