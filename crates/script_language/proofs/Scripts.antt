-- The lines of an input, and what they ask for, one after the other.
use Rattle.std.proofs.Common.{◌≡◌, refl, sym, ap, ◌∙◌, ℕ, suc, ◌+◌, ◌*◌, ◌≤◌, List, [], ◌∷◌, ◌++◌, length, append_assoc, All, ◌==◌, false, arith, length-append, Option, Some, Bor}
use Rattle.std.specs.Str.Iter.{LacksByte}
use Rattle.std.proofs.lemmas.Bool.{ne_eqb}
use Rattle.std.proofs.lemmas.List.Elements.{All-nil, All-cons}
use Rattle.std.proofs.lemmas.List.Splits.{slice_split_none, slice_split_at}
use Rattle.inlinable_string.specs.declared.run.Command.{Command}
use Rattle.script_language.specs.Line.{IsFirstCut, IsLine}
use Rattle.script_language.specs.declared.input.TheConstants.{MOST_BYTES}
use Rattle.script_language.specs.Script.{LinesAskFor, bytes_left, lines_left, lines_of}

all-lack : (m : ℕ) (bytes : List ℕ) → LacksByte m bytes → All (λ b. (b == m) ≡ false) bytes
all-lack m [] lacks = All-nil (λ b. (b == m) ≡ false)
all-lack m (b ∷ bytes) lacks =
    All-cons (λ x. (x == m) ≡ false) b bytes (ne_eqb b m (lacks 0 (omega arith)))
    (all-lack m bytes (λ k below. lacks (suc k) (omega arith)))

-- a text that is cut at its first line feed has that line first
pub lines_at : (text front behind : List ℕ) → IsFirstCut 10 text front behind
    → lines_of text ≡ front ∷ lines_of behind
lines_at text front behind cut =
    ap lines_of cut.joined
    ∙ slice_split_at (λ b. b == 10) front 10 behind (all-lack 10 front cut.first) refl

-- a text without a line feed is one line
pub one_line : (text : List ℕ) → LacksByte 10 text → lines_of text ≡ text ∷ []
one_line text lacks = slice_split_none (λ b. b == 10) text (all-lack 10 text lacks)

-- a line without a byte asks for nothing
pub ask_no_more : (lines : List (List ℕ)) (commands : List Command) (line : List ℕ)
    → LinesAskFor lines commands → length line ≡ 0 → LinesAskFor (lines ++ line ∷ []) commands
ask_no_more [] [] [] asked none = tt
ask_no_more [] [] (b ∷ line) asked none = absurd (omega (arith, none))
ask_no_more [] (command ∷ commands) line asked none = elim asked [ ]
ask_no_more ((b ∷ first) ∷ lines) [] line asked none = elim asked [ ]
ask_no_more ([] ∷ lines) commands line asked none =
    ask_no_more lines commands line asked none
ask_no_more ((b ∷ first) ∷ lines) (command ∷ commands) line asked none =
    (asked.0, ask_no_more lines commands line asked.1 none)

-- another line asks for its command
pub ask_more : (lines : List (List ℕ)) (commands : List Command) (line : List ℕ)
    (command : Command) → LinesAskFor lines commands → ¬ (line ≡ []) → IsLine line command
    → LinesAskFor (lines ++ line ∷ []) (commands ++ command ∷ [])
ask_more [] [] [] command asked bytes is = absurd (bytes refl)
ask_more [] [] (b ∷ line) command asked bytes is = (is, tt)
ask_more [] (c ∷ commands) line command asked bytes is = elim asked [ ]
ask_more ((b ∷ first) ∷ lines) [] line command asked bytes is = elim asked [ ]
ask_more ([] ∷ lines) commands line command asked bytes is =
    ask_more lines commands line command asked bytes is
ask_more ((b ∷ first) ∷ lines) (c ∷ commands) line command asked bytes is =
    (asked.0, ask_more lines commands line command asked.1 bytes is)

-- how far an input is read: its lines so far ask for the commands so far, the next line has this
-- number, and what is left of it has no more bytes than twice the room
pub record IsReadTo (lines : List (List ℕ)) (rest : Option (Bor (List ℕ)))
    (commands : List Command) (number room : ℕ) : Type 0 where
  pub done : List (List ℕ)
  pub split : lines ≡ done ++ lines_left rest
  pub asked : LinesAskFor done commands
  pub counted : number ≡ length done + 1
  pub roomy : bytes_left rest ≤ 2 + 2 * room
  pub bounded : number + bytes_left rest ≤ MOST_BYTES + 2

-- the first line of what is left, and what is left then
pub record IsNextLine (rest more : Option (Bor (List ℕ))) (line : List ℕ) : Type 0 where
  pub text : Bor (List ℕ)
  pub is : rest ≡ Some text
  pub first : lines_of text.now ≡ line ∷ lines_left more
  pub size : length line + bytes_left more ≡ length text.now

-- a line that asks for nothing, or for a command, is read
pub read_line : (lines : List (List ℕ)) (rest more : Option (Bor (List ℕ)))
    (commands commands' : List Command) (number room room' : ℕ) (line : List ℕ)
    → (before : IsReadTo lines rest commands number room) → IsNextLine rest more line
    → LinesAskFor (before.done ++ line ∷ []) commands' → 2 * room ≤ 2 * room' + length line
    → IsReadTo lines more commands' (number + 1) room'
read_line lines rest more commands commands' number room room' line before next asked fits =
    let size : bytes_left rest ≡ 1 + length next.text.now = ap bytes_left next.is in
    record {
      done = before.done ++ line ∷ [];
      split = before.split
          ∙ ap (λ r. before.done ++ lines_left r) next.is
          ∙ ap (λ l. before.done ++ l) next.first
          ∙ sym (append_assoc before.done (line ∷ []) (lines_left more));
      asked = asked;
      counted = omega (arith, before.counted, length-append before.done (line ∷ []));
      roomy = omega (arith, before.roomy, size, next.size, fits);
      bounded = omega (arith, before.bounded, size, next.size);
    }
