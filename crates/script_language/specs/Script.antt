-- What a script is, and what it prints.
use Rattle.std.specs.Prelude.{◌≡◌, ℕ, ◌+◌, ◌≤◌, ◌==◌, List, [], ◌∷◌, ◌++◌, length, codes, map, Option, Some, None}
use Rattle.std.specs.Borrow.{Bor}
use Rattle.std.specs.Str.{IsUtf8}
use Rattle.std.specs.List.{slice_split}
use Rattle.std.specs.String.{string_bytes}
use Rattle.std.specs.declared.string.String.{String}
use Rattle.inlinable_string.specs.State.{Policy, TextState, storage_when_made}
use Rattle.inlinable_string.specs.StringValues.{heap_policy}
use Rattle.inlinable_string.specs.Values.{inlinable_policy}
use Rattle.inlinable_string.specs.Run.{IsRun}
use Rattle.inlinable_string.specs.declared.inline_string.TheConstants.{INLINE_STRING_CAPACITY}
use Rattle.inlinable_string.specs.declared.run.Command.{Command}
use Rattle.inlinable_string.specs.declared.run.Reply.{Reply}
use Rattle.script_language.specs.Line.{IsLine}
use Rattle.script_language.specs.Output.{printed}
use Rattle.script_language.specs.declared.input.TheConstants.{MOST_BYTES}
use Rattle.script_language.specs.declared.start.Start.{Start}
use Rattle.script_language.specs.declared.start.Start.TheVariants as start

-- the argument word of a text
abbrev pub word_of_start : Start → List ℕ
word_of_start start.Inline = codes "inline"
word_of_start start.String = codes "string"
word_of_start start.Heap = codes "heap"
word_of_start start.Inline0 = codes "inline0"
word_of_start start.Inline8 = codes "inline8"

-- the words are the one argument word of the text
abbrev pub IsNamed : {Z : Type 0} → List (String Z) → Start → Type 0
IsNamed words start = map string_bytes words ≡ word_of_start start ∷ []

-- what decides where that text is stored
abbrev pub policy_of : Start → Policy
policy_of start.Inline = inlinable_policy INLINE_STRING_CAPACITY
policy_of start.String = heap_policy
policy_of start.Heap = inlinable_policy INLINE_STRING_CAPACITY
policy_of start.Inline0 = inlinable_policy 0
policy_of start.Inline8 = inlinable_policy 8

-- for how many bytes it is made, at the least
abbrev pub room_of : Start → ℕ
room_of start.Heap = INLINE_STRING_CAPACITY + 1
room_of other = 0

-- the value is that text, as it is made
pub record IsMade (start : Start) (s : TextState) : Type 0 where
  pub text : s.text ≡ []
  pub storage : s.storage ≡ storage_when_made (policy_of start) (room_of start)
  pub policy : s.policy ≡ policy_of start
  pub room : room_of start ≤ s.capacity

-- the lines of the input, cut at each line feed
abbrev pub lines_of : List ℕ → List (List ℕ)
lines_of input = slice_split (λ b. b == 10) input

-- each line that has a byte asks for a command, in order
abbrev pub LinesAskFor : List (List ℕ) → List Command → Type 0
LinesAskFor [] [] = Unit {0}
LinesAskFor [] (command ∷ commands) = ⊥
LinesAskFor ([] ∷ lines) commands = LinesAskFor lines commands
LinesAskFor ((b ∷ line) ∷ lines) [] = ⊥
LinesAskFor ((b ∷ line) ∷ lines) (command ∷ commands) =
    IsLine (b ∷ line) command × LinesAskFor lines commands

-- the line of this number, counted from 1, is the first that is not empty and asks for nothing
pub record IsFirstBad (lines : List (List ℕ)) (number : ℕ) : Type 0 where
  pub before : List (List ℕ)
  pub line : List ℕ
  pub behind : List (List ℕ)
  pub split : lines ≡ before ++ line ∷ behind
  pub counted : number ≡ length before + 1
  pub commands : List Command
  pub accepted : LinesAskFor before commands
  pub has_bytes : ¬ (line ≡ [])
  pub rejected : (command : Command) → ¬ (IsLine line command)

-- a run of the commands on a value in the first state prints the output
pub record Prints (old : TextState) (commands : List Command) (output : List ℕ) : Type 0 where
  pub replies : List Reply
  pub new : TextState
  pub ran : IsRun old commands replies new
  pub shown : output ≡ printed replies new

-- a run of the commands on the text of a start prints the output
pub record PrintsFrom (start : Start) (commands : List Command) (output : List ℕ) : Type 0 where
  pub made : TextState
  pub begun : IsMade start made
  pub run : Prints made commands output

-- the script in the input, on the text that the words name, prints the output
pub record IsScript {Z : Type 0} (words : List (String Z)) (input output : List ℕ) : Type 0 where
  pub start : Start
  pub named : IsNamed words start
  pub short : length input ≤ MOST_BYTES
  pub well_formed : IsUtf8 input
  pub commands : List Command
  pub asked : LinesAskFor (lines_of input) commands
  pub run : PrintsFrom start commands output

-- the lines of what is left of an input
abbrev pub lines_left : Option (Bor (List ℕ)) → List (List ℕ)
lines_left None = []
lines_left (Some rest) = lines_of rest.now

-- how many bytes are left of it, with the line feed before them
abbrev pub bytes_left : Option (Bor (List ℕ)) → ℕ
bytes_left None = 0
bytes_left (Some rest) = 1 + length rest.now
