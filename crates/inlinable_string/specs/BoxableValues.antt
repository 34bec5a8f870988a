-- The states of texts in a type without a parameter.
use Rattle.inlinable_string.specs.declared.boxable_string.BoxableString.{BoxableString}
use Rattle.inlinable_string.specs.declared.inline_string.TheConstants.{INLINE_STRING_CAPACITY}
use Rattle.inlinable_string.specs.State.{TextState}
use Rattle.inlinable_string.specs.Values.{inlinable_state}

-- a text in a type without a parameter
abbrev pub boxable_state : BoxableString → TextState
boxable_state s = inlinable_state INLINE_STRING_CAPACITY s.0
