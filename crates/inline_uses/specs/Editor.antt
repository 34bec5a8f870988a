-- A line that is edited, as its user sees it.
use Rattle.std.specs.Prelude.{ℕ, List, [], ◌++◌, Option, Some, None}

-- the characters before the cursor and those after it: so the cursor is between characters
pub record Parts : Type 0 where
  pub before : List ℕ
  pub behind : List ℕ

abbrev pub parts_of : Option (List ℕ × List ℕ) → Parts
parts_of None = record { before = []; behind = [] }
parts_of (Some parts) = record { before = parts.0; behind = parts.1 }

-- the text of the line
abbrev pub text_of : Parts → List ℕ
text_of line = line.before ++ line.behind
