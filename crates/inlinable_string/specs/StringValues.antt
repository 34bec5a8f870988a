-- The states of `String`s.
use Rattle.std.specs.Prelude.{false}
use Rattle.std.specs.Str.{chars}
use Rattle.std.specs.String.{string_bytes, string_capacity}
use Rattle.std.specs.declared.string.String.{String}
use Rattle.inlinable_string.specs.declared.string_ext.Storage.TheVariants.{Heap}
use Rattle.inlinable_string.specs.State.{Policy, TextState}

-- a text that is never stored inline
abbrev pub heap_policy : Policy
heap_policy = record { demotes = false; limit = 0 }

-- a `String`, under a policy
abbrev pub heap_state : {Z : Type 0} → Policy → String Z → TextState
heap_state policy s = record {
  text = chars (string_bytes s);
  storage = Heap;
  capacity = string_capacity s;
  policy = policy;
}

-- a `String` of its own
abbrev pub string_state : {Z : Type 0} → String Z → TextState
string_state s = heap_state heap_policy s
