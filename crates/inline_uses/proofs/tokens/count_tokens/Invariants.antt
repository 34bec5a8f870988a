use Rattle.std.proofs.Common.{◌≡◌, ◌+◌, ◌≤◌, List, ℕ, ◌++◌, length}
use Rattle.std.specs.Str.{chars}
use Rattle.std.specs.List.{count_by}
use denote.Text.{Utf8}
use denote.Shadow.{shadow}
use Rattle.inline_uses.specs.declared.tokens.Kind.{Kind}
use Rattle.inline_uses.specs.Tokens.{AreTokens, is_solid}
use Rattle.inline_uses.proofs.tokens.count_tokens.Given as goal

-- the tokens so far, with what they have of the source
abbrev pub invariant-loop-token : goal.invariant-loop-token
invariant-loop-token g l = shadow (Utf8 l.rest) × (l.count + length l.rest ≤ length l.source)
    × ((passed : List ℕ) × (chars l.source ≡ passed ++ chars l.rest))
    × ((tokens : List (Kind × List ℕ)) × (l.count ≡ count_by is_solid tokens)
    × ((more : List (Kind × List ℕ)) → AreTokens (chars l.rest) more
    → AreTokens (chars l.source) (tokens ++ more)))

abbrev pub decreases-loop-token : goal.decreases-loop-token
decreases-loop-token g l = length l.rest
