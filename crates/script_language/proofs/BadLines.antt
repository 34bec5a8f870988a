-- How many commands lines ask for, and what stands before a bad one.
use Rattle.std.proofs.Common.{◌≡◌, Bool, refl, sym, ap, subst, ℕ, ◌+◌, ◌≤◌, List, [], ◌∷◌, ◌++◌, length, nat_lt, arith}
use Rattle.std.specs.List.{count_by}
use Rattle.std.proofs.lemmas.Bool.{lt-ltb}
use Rattle.std.proofs.lemmas.List.Sums.{sum_by-cons}
use mathlib.Core.Bool.{cond}
use Rattle.inlinable_string.specs.declared.run.Command.{Command}
use Rattle.script_language.specs.Line.{IsLine}
use Rattle.script_language.specs.Script.{LinesAskFor, IsFirstBad}

-- each line that has a byte asks for one command
pub as_many_commands : (lines : List (List ℕ)) (commands : List Command)
    → LinesAskFor lines commands → length commands ≡ count_by (λ line. nat_lt 0 (length line)) lines
as_many_commands [] [] asked = refl
as_many_commands [] (command ∷ commands) asked = absurd asked
as_many_commands ([] ∷ lines) commands asked = as_many_commands lines commands asked
as_many_commands ((b ∷ line) ∷ lines) [] asked = absurd asked
as_many_commands ((b ∷ line) ∷ lines) (command ∷ commands) asked =
    let has_byte : List ℕ → Bool = λ l. nat_lt 0 (length l) in
    let one = ap {B = ℕ} (λ t. cond t 1 0) (lt-ltb 0 (length (b ∷ line)) (omega arith)) in
    let more = sum_by-cons {X = List ℕ} (λ l. cond (has_byte l) 1 0) (b ∷ line) lines in
    omega (arith, as_many_commands lines commands asked.1, one, more)

-- lines of which one asks for nothing ask for nothing
pub bad_among : (before behind : List (List ℕ)) (line : List ℕ) (commands : List Command)
    → ¬ (line ≡ []) → ((command : Command) → ¬ (IsLine line command))
    → ¬ (LinesAskFor (before ++ line ∷ behind) commands)
bad_among [] behind [] commands bytes rejected asked = bytes refl
bad_among [] behind (b ∷ line) [] bytes rejected asked = asked
bad_among [] behind (b ∷ line) (command ∷ commands) bytes rejected asked = rejected command asked.0
bad_among ([] ∷ before) behind line commands bytes rejected asked =
    bad_among before behind line commands bytes rejected asked
bad_among ((b ∷ first) ∷ before) behind line [] bytes rejected asked = asked
bad_among ((b ∷ first) ∷ before) behind line (command ∷ commands) bytes rejected asked =
    bad_among before behind line commands bytes rejected asked.1

-- a bad line after lines that ask for commands is the first, by its number
pub first_bad : (before : List (List ℕ)) (commands : List Command) (behind : List (List ℕ))
    (line : List ℕ) → LinesAskFor before commands → ¬ (line ≡ [])
    → ((command : Command) → ¬ (IsLine line command))
    → IsFirstBad (before ++ line ∷ behind) (length before + 1)
first_bad before commands behind line asked bytes rejected = record {
  before = before;
  line = line;
  behind = behind;
  split = refl;
  counted = refl;
  commands = commands;
  accepted = asked;
  has_bytes = bytes;
  rejected = rejected;
}

-- no bad line stands before a first bad one
pub not_before : (before other : List (List ℕ)) (line last : List ℕ) (behind rest : List (List ℕ))
    (commands : List Command) → before ++ line ∷ behind ≡ other ++ last ∷ rest
    → LinesAskFor other commands → ¬ (line ≡ []) → ((command : Command) → ¬ (IsLine line command))
    → length other ≤ length before
not_before before [] line last behind rest commands same asked bytes rejected = omega arith
not_before [] (first ∷ other) line last behind rest commands same asked bytes rejected =
    let here : first ≡ line = search (sym same) in
    absurd (bad_among [] other line commands bytes rejected
    (subst (λ l. LinesAskFor (l ∷ other) commands) here asked))
not_before (x ∷ before) ([] ∷ other) line last behind rest commands same asked bytes rejected =
    let tails : before ++ line ∷ behind ≡ other ++ last ∷ rest = search same in
    omega (arith, not_before before other line last behind rest commands tails asked bytes rejected)
not_before (x ∷ before) ((b ∷ first) ∷ other) line last behind rest [] same asked bytes rejected =
    absurd asked
not_before (x ∷ before) ((b ∷ first) ∷ other) line last behind rest (command ∷ commands) same asked
    bytes rejected =
    let tails : before ++ line ∷ behind ≡ other ++ last ∷ rest = search same in
    omega (
      arith,
      not_before before other line last behind rest commands tails asked.1 bytes
          rejected,
    )
