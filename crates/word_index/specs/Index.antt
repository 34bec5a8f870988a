-- The words of a text, and a list of them with their uses.
use Rattle.std.specs.Prelude.{◌≡◌, ℕ, ◌+◌, ◌<◌, ◌^◌, ◌-◌, min, List, [], ◌∷◌, ◌++◌, length, Option, Some, None}
use Rattle.std.specs.Borrow.{Bor}
use Rattle.std.specs.BTreeMap.{insert_entry, is_at}
use Rattle.std.specs.Char.{is_whitespace, is_not_whitespace}
use Rattle.std.specs.Cmp.Lexicographic.{slice_cmp}
use Rattle.std.specs.Map.{lookup}
use Rattle.std.specs.Ordering.{nat_cmp}
use Rattle.std.specs.Str.{NoCharPasses, EmptyOrStartsWithPassing}
use Rattle.inlinable_string.specs.Text.{bytes_of}
use Rattle.inlinable_string.specs.Values.{inlinable_state}
use Rattle.inlinable_string.specs.declared.inlinable_string.InlinableStringN.{InlinableStringN}
use Rattle.word_index.specs.declared.index.Uses.{Uses}
use Rattle.word_index.specs.declared.index.Index.TheInside.{Inside}

-- words with their uses, in the order of the words
abbrev pub Entries : Type 0
Entries = List (List ℕ × Uses)

-- the bytes of a word, wherever it is stored
abbrev pub bytes_at : InlinableStringN 30 → List ℕ
bytes_at t = bytes_of (inlinable_state 30 t).text

-- an entry that is lent
abbrev pub shown : Bor (InlinableStringN 30) × Uses → List ℕ × Uses
shown e = (bytes_at e.0.now, e.1)

-- the uses of a word, if it is there
abbrev pub use_of : Entries → List ℕ → Option Uses
use_of entries word = lookup (is_at (slice_cmp nat_cmp word)) entries

-- the entries with these uses of a word
abbrev pub with_use : Entries → List ℕ → Uses → Entries
with_use entries word uses = insert_entry (slice_cmp nat_cmp) entries word uses

abbrev pub entries_of : Inside → Entries
entries_of a = a.words

-- uses with one more: a count stops at the greatest number, and the first line stays
abbrev pub used : Option Uses → ℕ → Uses
used None line = record { count = 1; line = line }
used (Some uses) line = record { count = min (uses.count + 1) (2 ^ 64 - 1); line = uses.line }

-- the entries with words of one line
abbrev pub with_words : Entries → List (List ℕ) → ℕ → Entries
with_words entries [] line = entries
with_words entries (word ∷ words) line =
    with_words (with_use entries word (used (use_of entries word) line)) words line

-- a text begins with this word after white space, and then goes on with the rest, which is empty or
-- begins with white space
pub record BeginsWith (text word rest : List ℕ) : Type 0 where
  pub space : List ℕ
  pub joined : text ≡ space ++ (word ++ rest)
  pub some : 0 < length word
  pub blank : NoCharPasses is_not_whitespace space
  pub whole : NoCharPasses is_whitespace word
  pub ends : (more : List ℕ) × EmptyOrStartsWithPassing is_whitespace rest more

-- these are the words of a text
abbrev pub AreWords : List ℕ → List (List ℕ) → Type 0
AreWords text [] = NoCharPasses is_not_whitespace text
AreWords text (word ∷ words) = (rest : List ℕ) × BeginsWith text word rest × AreWords rest words
