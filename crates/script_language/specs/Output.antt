-- What is printed of a run.
use Rattle.std.specs.Prelude.{◌≡◌, ℕ, List, ◌++◌, codes, decimal, encode_utf8, Option}
use Rattle.std.specs.Io.KnownBytes.{Appends}
use Rattle.std.specs.List.{flat_map}
use Rattle.inlinable_string.specs.Text.{bytes_of, size}
use Rattle.inlinable_string.specs.State.{TextState}
use Rattle.inlinable_string.specs.declared.run.Reply.{Reply}
use Rattle.inlinable_string.specs.declared.run.Reply.TheVariants.{Done, Char, NoChar, BadPlace, NotUtf8, WrongLength, NoMemory}
use Rattle.inlinable_string.specs.declared.string_ext.Storage.{Storage}
use Rattle.inlinable_string.specs.declared.string_ext.Storage.TheVariants.{Inline, Heap}

-- the line of a reply
abbrev pub reply_line : Reply → List ℕ
reply_line Done = codes "done\n"
reply_line (Char character) = codes "char " ++ encode_utf8 character ++ codes "\n"
reply_line NoChar = codes "none\n"
reply_line BadPlace = codes "bad place\n"
reply_line NotUtf8 = codes "not utf-8\n"
reply_line WrongLength = codes "wrong length\n"
reply_line NoMemory = codes "no memory\n"

abbrev pub storage_name : Storage → List ℕ
storage_name Inline = codes "inline"
storage_name Heap = codes "heap"

-- a line of a label and its value
abbrev pub labelled_line : List ℕ → List ℕ → List ℕ
labelled_line label value = label ++ value ++ codes "\n"

-- the lines of the text, its length and its storage
abbrev pub state_lines : TextState → List ℕ
state_lines s = labelled_line (codes "text ") (bytes_of s.text)
    ++ labelled_line (codes "length ") (decimal (size s.text))
    ++ labelled_line (codes "storage ") (storage_name s.storage)

-- all that is printed
abbrev pub printed : List Reply → TextState → List ℕ
printed replies s = flat_map reply_line replies ++ state_lines s

-- of these bytes a front was written
pub record WritesFront (old new : Option (List ℕ)) (bytes : List ℕ) : Type 0 where
  pub front : List ℕ
  pub behind : List ℕ
  pub split : bytes ≡ front ++ behind
  pub written : Appends old new front

-- of the bytes that waited and of these a front was written, and the rest waits
pub record IsGathered (old new : Option (List ℕ)) (waited bytes waiting : List ℕ) : Type 0 where
  pub front : List ℕ
  pub split : waited ++ bytes ≡ front ++ waiting
  pub written : Appends old new front
