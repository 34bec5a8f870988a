use Rattle.std.proofs.Common.{◌≡◌, List, ℕ, ◌++◌, Some, length}
use Rattle.std.specs.Str.{chars}
use denote.Text.{Utf8}
use denote.Shadow.{shadow}
use Rattle.inline_uses.specs.Tokens.{unescaped}
use Rattle.inline_uses.proofs.tokens.read_text.Given as goal

abbrev pub invariant-loop-read : goal.invariant-loop-read
invariant-loop-read g l = shadow (Utf8 l.rest) × ((inside : List ℕ)
    × (chars l.source ≡ inside ++ chars l.rest) × (unescaped inside ≡ Some l.word))

abbrev pub decreases-loop-read : goal.decreases-loop-read
decreases-loop-read g l = length l.rest
