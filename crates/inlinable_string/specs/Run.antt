-- What a list of commands does to a value, and which replies are legal, whichever allocations fail.
use Rattle.std.specs.Prelude.{◌≡◌, ℕ, ◌+◌, ◌-◌, ◌≤◌, ◌<◌, ◌^◌, ◌⊎◌, List, [], ◌∷◌, length, take, drop, IsTrue}
use Rattle.std.specs.Str.{chars}
use Rattle.inlinable_string.specs.Text.{size}
use Rattle.inlinable_string.specs.State.{TextState, HasInlineRoom, storage_with_room, storage_when_shrunk}
use Rattle.inlinable_string.specs.Edit.{edit, reply_of, text_after_step, text_after}
use Rattle.inlinable_string.specs.declared.string_ext.Storage.{Storage}
use Rattle.inlinable_string.specs.declared.run.Command.{Command}
use Rattle.inlinable_string.specs.declared.run.Command.TheVariants.{Push, PushStr, Insert, InsertStr, Truncate, Pop, Remove, Clear, ReplaceBytes, Reserve, ReserveExact, ShrinkToFit}
use Rattle.inlinable_string.specs.declared.run.Reply.{Reply}
use Rattle.inlinable_string.specs.declared.run.Reply.TheVariants.{Done, BadPlace, NoMemory}

-- what a command needs of the text's capacity
pub data Need : Type 0 where
  -- n more bytes at the end
  at_end : ℕ → Need
  -- n more bytes at any place
  anywhere : ℕ → Need
  -- capacity for n more bytes
  reserved : ℕ → Need
  -- the least capacity
  tight : Need
  no_room : Need

abbrev pub need_of : Command → Need
need_of (Push c) = at_end (size (c ∷ []))
need_of (PushStr u) = at_end (size (chars u.now))
need_of (Insert p c) = anywhere (size (c ∷ []))
need_of (InsertStr p u) = anywhere (size (chars u.now))
need_of (Truncate p) = no_room
need_of Pop = no_room
need_of (Remove p) = no_room
need_of Clear = no_room
need_of (ReplaceBytes b) = no_room
need_of (Reserve n) = reserved n
need_of (ReserveExact n) = reserved n
need_of ShrinkToFit = tight

-- its storage once a need is met
abbrev pub storage_when_met : TextState → Need → Storage
storage_when_met s (at_end n) = storage_with_room s n
storage_when_met s (anywhere n) = storage_with_room s n
storage_when_met s (reserved n) = storage_with_room s n
storage_when_met s tight = storage_when_shrunk s
storage_when_met s no_room = s.storage

-- its storage after a command with its reply
abbrev pub storage_after_step : TextState → Command → Reply → Storage
storage_after_step s command Done = storage_when_met s (need_of command)
storage_after_step s command reply = s.storage

-- how many bytes pushes may add before an allocation can fail
abbrev pub credit : TextState → ℕ
credit s = s.capacity - size s.text

-- the same once a need is met, where it was k
abbrev pub credit_when_met : ℕ → Need → ℕ
credit_when_met k (at_end n) = k - n
credit_when_met k (reserved n) = n
credit_when_met k need = 0

-- the same after a command with its reply
abbrev pub credit_after_step : ℕ → Command → Reply → ℕ
credit_after_step k command Done = credit_when_met k (need_of command)
credit_after_step k command BadPlace = k
credit_after_step k command reply = 0

-- the state after a command with its reply; its capacity is the least that is certain
abbrev pub state_after_step : TextState → Command → Reply → TextState
state_after_step s command reply = record {
  text = text_after_step s.text command reply;
  storage = storage_after_step s command reply;
  capacity =
      size (text_after_step s.text command reply) + credit_after_step (credit s) command reply;
  policy = s.policy;
}

-- the state after commands with their replies, one after the other
abbrev pub state_after : TextState → List Command → List Reply → TextState
state_after s [] replies = s
state_after s (command ∷ commands) [] = s
state_after s (command ∷ commands) (reply ∷ replies) =
    state_after (state_after_step s command reply) commands replies

abbrev pub storage_after : TextState → List Command → List Reply → Storage
storage_after s commands replies = (state_after s commands replies).storage

abbrev pub credit_after : TextState → List Command → List Reply → ℕ
credit_after s commands replies = credit (state_after s commands replies)

-- the command may allocate on the text t: it needs capacity, and no other error comes first
abbrev pub AsksMemory : List ℕ → Command → Type 0
AsksMemory t command = ¬ (need_of command ≡ no_room) × (reply_of (edit t command) ≡ Done)

-- the need is met without allocating
abbrev pub IsMet : TextState → Need → Type 0
IsMet s (at_end n) = HasInlineRoom s n ⊎ (n ≤ credit s)
IsMet s (anywhere n) = HasInlineRoom s n
IsMet s (reserved n) = HasInlineRoom s n
IsMet s tight = IsTrue s.policy.demotes × (size s.text ≤ s.policy.limit)
IsMet s no_room = Unit {0}

-- the reply to the command cannot be `NoMemory`
abbrev pub IsFree : TextState → Command → Type 0
IsFree s command = ¬ (AsksMemory s.text command) ⊎ IsMet s (need_of command)

-- what was reserved fits in a `usize`
abbrev pub IsCounted : TextState → Need → Reply → Type 0
IsCounted s (reserved n) Done = size s.text + n < 2 ^ 64
IsCounted s need reply = Unit {0}

-- the reply is that of `edit`, or `NoMemory` to a command that is not free
pub record IsLegal (s : TextState) (command : Command) (reply : Reply) : Type 0 where
  pub answer : (reply ≡ reply_of (edit s.text command))
      ⊎ ((reply ≡ NoMemory) × ¬ (IsFree s command))
  pub counted : IsCounted s (need_of command) reply

-- the lists have the same length, and each reply is legal in its turn
abbrev pub LegalReplies : TextState → List Command → List Reply → Type 0
LegalReplies s [] [] = Unit {0}
LegalReplies s (command ∷ commands) (reply ∷ replies) =
    IsLegal s command reply × LegalReplies (state_after_step s command reply) commands replies
LegalReplies s [] (reply ∷ replies) = ⊥
LegalReplies s (command ∷ commands) [] = ⊥

-- what a run does to a value: the parts of the contract of `run`
pub record IsRun
    (old : TextState) (commands : List Command) (replies : List Reply) (new : TextState)
    : Type 0 where
  pub text : new.text ≡ text_after old.text commands replies
  pub storage : new.storage ≡ storage_after old commands replies
  pub legal : LegalReplies old commands replies
  pub credit : size new.text + credit_after old commands replies ≤ new.capacity
  pub policy : new.policy ≡ old.policy

-- each value has its own run; its replies, one for each command, come before those of the next
-- value
abbrev pub EachRun : List TextState → List Command → List Reply → List TextState → Type 0
EachRun [] commands replies [] = Unit {0}
EachRun (old ∷ olds) commands replies (new ∷ news) =
    IsRun old commands (take (length commands) replies) new
    × EachRun olds commands (drop (length commands) replies) news
EachRun [] commands replies (new ∷ news) = ⊥
EachRun (old ∷ olds) commands replies [] = ⊥
