-- What a command does to a text if no allocation fails.
use Rattle.std.specs.Prelude.{ℕ, List, [], ◌∷◌, ◌++◌, length, Option, Some, None, if◌then◌else◌, nat_eq}
use Rattle.std.specs.Str.{chars, is_utf8}
use Rattle.inlinable_string.specs.Text.{size, cut}
use Rattle.inlinable_string.specs.declared.run.Command.{Command}
use Rattle.inlinable_string.specs.declared.run.Command.TheVariants.{Push, PushStr, Insert, InsertStr, Truncate, Pop, Remove, Clear, ReplaceBytes, Reserve, ReserveExact, ShrinkToFit}
use Rattle.inlinable_string.specs.declared.run.Reply.{Reply}
use Rattle.inlinable_string.specs.declared.run.Reply.TheVariants.{Done, Char, NoChar, BadPlace, NotUtf8, WrongLength, NoMemory}

-- what a command leads to
pub data Outcome : Type 0 where
  -- it succeeds, and this is the text after it
  becomes : List ℕ → Outcome
  -- it removes this character, and this is the text after it
  yields : ℕ → List ℕ → Outcome
  -- it fails, and the text is unchanged: there is no character to remove
  has_no_char : Outcome
  -- there is no such place, or no character begins there
  has_no_place : Outcome
  -- the bytes are not UTF-8
  is_not_utf8 : Outcome
  -- the lengths differ
  has_wrong_length : Outcome

abbrev pub reply_of : Outcome → Reply
reply_of (becomes v) = Done
reply_of (yields c v) = Char c
reply_of has_no_char = NoChar
reply_of has_no_place = BadPlace
reply_of is_not_utf8 = NotUtf8
reply_of has_wrong_length = WrongLength

-- the text after a command on the text t
abbrev pub text_left : List ℕ → Outcome → List ℕ
text_left t (becomes v) = v
text_left t (yields c v) = v
text_left t refusal = t

-- a text and its last character, with the character c before the text
abbrev pub with_char_in_front : ℕ → Option (List ℕ × ℕ) → List ℕ × ℕ
with_char_in_front c None = ([], c)
with_char_in_front c (Some end) = (c ∷ end.0, end.1)

-- the text without its last character, and that character
abbrev pub split_last : List ℕ → Option (List ℕ × ℕ)
split_last [] = None
split_last (c ∷ t) = Some (with_char_in_front c (split_last t))

-- the text u is inserted between the two parts of a text
abbrev pub insertion : List ℕ → Option (List ℕ × List ℕ) → Outcome
insertion u None = has_no_place
insertion u (Some parts) = becomes (parts.0 ++ u ++ parts.1)

-- the first of two parts is kept
abbrev pub truncation : Option (List ℕ × List ℕ) → Outcome
truncation None = has_no_place
truncation (Some parts) = becomes parts.0

-- the last character is removed from the text before it
abbrev pub pop_result : Option (List ℕ × ℕ) → Outcome
pop_result None = has_no_char
pop_result (Some end) = yields end.1 end.0

-- the first character of what comes after a is removed
abbrev pub removal_behind : List ℕ → List ℕ → Outcome
removal_behind a [] = has_no_place
removal_behind a (c ∷ b) = yields c (a ++ b)

-- the character that the second of two parts begins with is removed
abbrev pub removal : Option (List ℕ × List ℕ) → Outcome
removal None = has_no_place
removal (Some parts) = removal_behind parts.0 parts.1

-- the bytes bs overwrite those of the text t
abbrev pub replacement : List ℕ → List ℕ → Outcome
replacement t bs =
    if nat_eq (length bs) (size t) then (if is_utf8 bs then becomes (chars bs) else is_not_utf8)
    else has_wrong_length

-- what a command on the text t leads to; a `&str` has the characters of its bytes
abbrev pub edit : List ℕ → Command → Outcome
edit t (Push c) = becomes (t ++ c ∷ [])
edit t (PushStr u) = becomes (t ++ chars u.now)
edit t (Insert p c) = insertion (c ∷ []) (cut t p)
edit t (InsertStr p u) = insertion (chars u.now) (cut t p)
edit t (Truncate p) = truncation (cut t p)
edit t Pop = pop_result (split_last t)
edit t (Remove p) = removal (cut t p)
edit t Clear = becomes []
edit t (ReplaceBytes b) = replacement t b.now
edit t (Reserve n) = becomes t
edit t (ReserveExact n) = becomes t
edit t ShrinkToFit = becomes t

-- the text after a command with its reply: `NoMemory` leaves it
abbrev pub text_after_step : List ℕ → Command → Reply → List ℕ
text_after_step t command NoMemory = t
text_after_step t command reply = text_left t (edit t command)

-- the text after commands with their replies, one after the other
abbrev pub text_after : List ℕ → List Command → List Reply → List ℕ
text_after t [] replies = t
text_after t (command ∷ commands) [] = t
text_after t (command ∷ commands) (reply ∷ replies) =
    text_after (text_after_step t command reply) commands replies
