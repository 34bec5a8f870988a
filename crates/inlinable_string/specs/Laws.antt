-- Words for laws over whole runs.
use Rattle.std.specs.Prelude.{◌≡◌, ℕ, ◌+◌, ◌-◌, ◌≤◌, List, [], ◌∷◌, Bool, true, false}
use Rattle.inlinable_string.specs.Text.{size}
use Rattle.inlinable_string.specs.Edit.{edit, reply_of, text_left}
use Rattle.inlinable_string.specs.Run.{Need, at_end, reserved, need_of}
use Rattle.inlinable_string.specs.declared.run.Command.{Command}
use Rattle.inlinable_string.specs.declared.run.Reply.{Reply}
use Rattle.inlinable_string.specs.declared.run.Reply.TheVariants.{NoMemory}

-- the replies to commands from the text t, one after the other, if no allocation fails
abbrev pub replies_of : List ℕ → List Command → List Reply
replies_of t [] = []
replies_of t (command ∷ commands) =
    reply_of (edit t command) ∷ replies_of (text_left t (edit t command)) commands

-- the text after commands from the text t, one after the other, if no allocation fails
abbrev pub text_after_edits : List ℕ → List Command → List ℕ
text_after_edits t [] = t
text_after_edits t (command ∷ commands) =
    text_after_edits (text_left t (edit t command)) commands

-- what is reserved, if it is, fits within n bytes together with the text t
abbrev pub ReservesWithin : ℕ → List ℕ → Need → Type 0
ReservesWithin n t (reserved m) = size t + m ≤ n
ReservesWithin n t need = Unit {0}

-- a command on the text t leaves at most n bytes, and t fits within n with what it reserves
abbrev pub LeavesWithin : ℕ → List ℕ → Command → Type 0
LeavesWithin n t command =
    ReservesWithin n t (need_of command) × (size (text_left t (edit t command)) ≤ n)

-- each command of a list that begins at the text t, if no allocation fails, leaves at most n bytes,
-- and the text that it finds fits within n with what it reserves
abbrev pub StaysWithin : ℕ → List ℕ → List Command → Type 0
StaysWithin n t [] = Unit {0}
StaysWithin n t (command ∷ commands) =
    LeavesWithin n t command × StaysWithin n (text_left t (edit t command)) commands

-- the commands are pushes, and add at most k bytes together
abbrev pub PushesWithin : ℕ → List Command → Type 0
PushesWithin k [] = Unit {0}
PushesWithin k (command ∷ commands) =
    (n : ℕ) × (need_of command ≡ at_end n) × (n ≤ k) × PushesWithin (k - n) commands

-- an allocation failed
abbrev pub is_refusal : Reply → Bool
is_refusal NoMemory = true
is_refusal reply = false
