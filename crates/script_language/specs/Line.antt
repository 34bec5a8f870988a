-- What a line and its parts are written as.
use Rattle.std.specs.Prelude.{◌≡◌, ℕ, ◌*◌, ◌≤◌, ◌<◌, ◌^◌, List, [], ◌∷◌, ◌++◌, length, codes, encode_utf8, map}
use Rattle.std.specs.Char.{IsScalar}
use Rattle.std.specs.Str.Iter.{LacksByte}
use Rattle.std.specs.Simd.{first_chunks}
use Rattle.std.specs.Str.Parse.{AllDigits, IsNumeral, digits_value}
use Rattle.inlinable_string.specs.declared.run.Command.{Command}
use Rattle.script_language.specs.declared.line.TheConstants.{MOST_DIGITS}
use Rattle.inlinable_string.specs.declared.run.Command.TheVariants.{Push, PushStr, Insert, InsertStr, Truncate, Pop, Remove, Clear, ReplaceBytes, Reserve, ReserveExact, ShrinkToFit}

-- the byte between a word and its argument, and between two arguments
abbrev pub space : ℕ
space = 32

-- the text has the mark, and is cut at the first one
pub record IsFirstCut (mark : ℕ) (text front behind : List ℕ) : Type 0 where
  pub joined : text ≡ front ++ mark ∷ behind
  pub first : LacksByte mark front

-- the digits are written for the number: at least one, no more than a place may have, and no sign
pub record IsNumberText (digits : List ℕ) (number : ℕ) : Type 0 where
  pub numeral : IsNumeral 10 digits
  pub short : length digits ≤ MOST_DIGITS
  pub value : number ≡ digits_value 10 digits
  pub bounded : number < 2 ^ 64

-- the text is the character
pub record IsCharText (text : List ℕ) (c : ℕ) : Type 0 where
  pub scalar : IsScalar c
  pub encoded : text ≡ encode_utf8 c

-- the digits are hexadecimal, two for each byte, which is the number that they write
pub record IsHexText (digits bytes : List ℕ) : Type 0 where
  pub hexadecimal : AllDigits 16 digits
  pub pairs : length digits ≡ 2 * length bytes
  pub values : bytes ≡ map (digits_value 16) (first_chunks 2 (length bytes) digits)

-- the word that a command's line begins with
abbrev pub word_of : Command → List ℕ
word_of (Push c) = codes "push"
word_of (PushStr string) = codes "push_str"
word_of (Insert place c) = codes "insert"
word_of (InsertStr place string) = codes "insert_str"
word_of (Truncate place) = codes "truncate"
word_of Pop = codes "pop"
word_of (Remove place) = codes "remove"
word_of Clear = codes "clear"
word_of (ReplaceBytes replacement) = codes "replace_bytes"
word_of (Reserve n) = codes "reserve"
word_of (ReserveExact n) = codes "reserve_exact"
word_of ShrinkToFit = codes "shrink_to_fit"

-- what is written after the word of a line, in one of seven forms
pub data Arguments : Type 0 where
  nothing : Arguments
  character : ℕ → Arguments
  text : List ℕ → Arguments
  number : ℕ → Arguments
  number_and_character : ℕ → ℕ → Arguments
  number_and_text : ℕ → List ℕ → Arguments
  bytes : List ℕ → Arguments

-- the arguments of a command
abbrev pub arguments_of : Command → Arguments
arguments_of (Push c) = character c
arguments_of (PushStr string) = text string.now
arguments_of (Insert place c) = number_and_character place c
arguments_of (InsertStr place string) = number_and_text place string.now
arguments_of (Truncate place) = number place
arguments_of Pop = nothing
arguments_of (Remove place) = number place
arguments_of Clear = nothing
arguments_of (ReplaceBytes replacement) = bytes replacement.now
arguments_of (Reserve n) = number n
arguments_of (ReserveExact n) = number n
arguments_of ShrinkToFit = nothing

-- the tail of a line is written for the arguments: a space before each, and else nothing
abbrev pub IsTail : Arguments → List ℕ → Type 0
IsTail nothing tail = tail ≡ []
IsTail (character c) tail = (behind : List ℕ) × (tail ≡ space ∷ behind) × IsCharText behind c
IsTail (text t) tail = tail ≡ space ∷ t
IsTail (number n) tail = (digits : List ℕ) × (tail ≡ space ∷ digits) × IsNumberText digits n
IsTail (number_and_character n c) tail = (digits : List ℕ) × (behind : List ℕ)
    × (tail ≡ space ∷ digits ++ space ∷ behind) × IsNumberText digits n × IsCharText behind c
IsTail (number_and_text n t) tail = (digits : List ℕ)
    × (tail ≡ space ∷ digits ++ space ∷ t) × IsNumberText digits n
IsTail (bytes bs) tail = (digits : List ℕ) × (tail ≡ space ∷ digits) × IsHexText digits bs

-- the line asks for the command
abbrev pub IsLine : List ℕ → Command → Type 0
IsLine line command =
    (tail : List ℕ) × (line ≡ word_of command ++ tail) × IsTail (arguments_of command) tail
