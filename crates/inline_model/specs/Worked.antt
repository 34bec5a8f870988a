-- The states and the commands of the worked rows.
use Rattle.std.specs.Prelude.{ℕ, List, [], ◌∷◌, true, false}
use Rattle.inlinable_string.specs.State.{TextState}
use Rattle.inlinable_string.specs.declared.string_ext.Storage.TheVariants.{Inline, Heap}
use Rattle.inlinable_string.specs.declared.run.Command.{Command}
use Rattle.inlinable_string.specs.declared.run.Command.TheVariants.{Push, Truncate, Pop, Remove}

-- an inline text with this capacity
abbrev pub inline_text : List ℕ → ℕ → TextState
inline_text t n = record {
  text = t;
  storage = Inline;
  capacity = n;
  policy = record { demotes = true; limit = n };
}

-- a text on the heap with this capacity, which never moves back
abbrev pub heap_only_text : List ℕ → ℕ → TextState
heap_only_text t n = record {
  text = t;
  storage = Heap;
  capacity = n;
  policy = record { demotes = false; limit = 30 };
}

-- a text on the heap with this capacity, and a limit of 30
abbrev pub heap_text : List ℕ → ℕ → TextState
heap_text t n = record (heap_only_text t n) { policy = record { demotes = true; limit = 30 } }

-- é put at the end, a place inside it cut at, the first character taken out, and the last taken off
abbrev pub four_edits : List Command
four_edits = Push 233 ∷ Truncate 2 ∷ Remove 0 ∷ Pop ∷ []

-- the last character taken off twice
abbrev pub two_commands : List Command
two_commands = Pop ∷ Pop ∷ []
