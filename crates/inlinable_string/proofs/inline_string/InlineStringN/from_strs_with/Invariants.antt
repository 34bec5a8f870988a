use Rattle.std.proofs.Common.{◌≡◌}
use Rattle.std.specs.Str.{chars}
use denote.Shadow.{shadow}
use denote.Text.{Utf8}
use Rattle.inlinable_string.specs.Joins.{text_of_strs_with}
use Rattle.inlinable_string.proofs.Separated.{before_next}
use Rattle.inlinable_string.proofs.inline_string.InlineStringN.from_strs_with.Given as goal

abbrev pub invariant-loop-string : goal.invariant-loop-string
invariant-loop-string g l =
    shadow (Utf8 l.before) × (l.made ≡ text_of_strs_with (chars l.fn.separator) l.yielded)
    × (chars l.before ≡ before_next (chars l.fn.separator) l.yielded)
