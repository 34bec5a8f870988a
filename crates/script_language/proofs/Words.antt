-- The command of each word, and which form of arguments follows it.
use Rattle.std.proofs.Common.{◌≡◌, refl, sym, ap, ◌∙◌, ℕ, List, [], codes, if◌then◌else◌}
use Rattle.std.specs.Borrow.{Bor}
use Rattle.std.specs.Str.{bytes_eq}
use Rattle.std.specs.Str.Iter.{LacksByte}
use Rattle.inlinable_string.specs.declared.run.Command.{Command}
use Rattle.inlinable_string.specs.declared.run.Command.TheVariants as make
use Rattle.script_language.specs.Line.{Arguments, nothing, character, text, number, number_and_character, number_and_text, bytes, arguments_of, space, word_of}
use Rattle.script_language.proofs.Cuts.{lacks-from_position}

-- the form of arguments, with nothing written in it
abbrev pub form : Arguments → Arguments
form nothing = nothing
form (character c) = character 0
form (text t) = text []
form (number n) = number 0
form (number_and_character n c) = number_and_character 0 0
form (number_and_text n t) = number_and_text 0 []
form (bytes bs) = bytes []

-- bytes that are borrowed from nowhere
abbrev borrowed : List ℕ → Bor (List ℕ)
borrowed bs = record { ref_ptr = (0, 0); now = bs }

-- the number, the character and the bytes that are written, if any are
abbrev parts_in : Arguments → ℕ × ℕ × Bor (List ℕ)
parts_in nothing = (0, 0, borrowed [])
parts_in (character c) = (0, c, borrowed [])
parts_in (text t) = (0, 0, borrowed t)
parts_in (number n) = (n, 0, borrowed [])
parts_in (number_and_character n c) = (n, c, borrowed [])
parts_in (number_and_text n t) = (n, 0, borrowed t)
parts_in (bytes bs) = (0, 0, borrowed bs)

-- the command of a word and its arguments
abbrev pub plain_of : List ℕ → Arguments → Command
plain_of word args =
    if bytes_eq word (codes "push") then make.Push (parts_in args).1 else
    if bytes_eq word (codes "push_str") then make.PushStr (parts_in args).2 else
    if bytes_eq word (codes "insert") then make.Insert (parts_in args).0 (parts_in args).1 else
    if bytes_eq word (codes "insert_str") then
    make.InsertStr (parts_in args).0 (parts_in args).2 else
    if bytes_eq word (codes "truncate") then make.Truncate (parts_in args).0 else
    if bytes_eq word (codes "pop") then make.Pop else
    if bytes_eq word (codes "remove") then make.Remove (parts_in args).0 else
    if bytes_eq word (codes "clear") then make.Clear else
    if bytes_eq word (codes "replace_bytes") then make.ReplaceBytes (parts_in args).2 else
    if bytes_eq word (codes "reserve") then make.Reserve (parts_in args).0 else
    if bytes_eq word (codes "reserve_exact") then make.ReserveExact (parts_in args).0 else
    make.ShrinkToFit

-- the form that follows a word
abbrev pub form_behind : List ℕ → Arguments
form_behind word = form (arguments_of (plain_of word nothing))

form_is : (command : Command) → form (arguments_of command) ≡ form_behind (word_of command)
form_is make.Pop = refl
form_is command = refl

-- a command has the form that follows its word
pub form_of_word : (word : List ℕ) (command : Command) → word ≡ word_of command
    → form (arguments_of command) ≡ form_behind word
form_of_word word command is = form_is command ∙ ap form_behind (sym is)

pub word_lacks_space : (command : Command) → LacksByte space (word_of command)
word_lacks_space make.Pop = lacks-from_position space (codes "pop") refl
word_lacks_space command = lacks-from_position space (word_of command) refl
