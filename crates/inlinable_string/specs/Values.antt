-- The states of texts that are stored inline or on the heap.
use Rattle.std.specs.Prelude.{ℕ, true}
use Rattle.inlinable_string.specs.declared.inlinable_string.InlinableStringN.{InlinableStringN}
use Rattle.inlinable_string.specs.declared.inlinable_string.InlinableStringN.TheVariants as variant
use Rattle.inlinable_string.specs.declared.string_ext.Storage.TheVariants.{Inline}
use Rattle.inlinable_string.specs.State.{Policy, TextState}
use Rattle.inlinable_string.specs.StringValues.{heap_state}

-- a text that is stored inline with at most n bytes
abbrev pub inlinable_policy : ℕ → Policy
inlinable_policy n = record { demotes = true; limit = n }

-- a text that is stored inline or on the heap
abbrev pub inlinable_state : (N : ℕ) → InlinableStringN N → TextState
inlinable_state N (variant.Inline t a) =
    record { text = t; storage = Inline; capacity = N; policy = inlinable_policy N }
inlinable_state N (variant.Heap s a) = heap_state (inlinable_policy N) s
