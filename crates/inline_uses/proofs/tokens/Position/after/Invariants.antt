use Rattle.std.proofs.Common.{◌≡◌, ◌+◌, ◌<◌, ◌^◌, length}
use Rattle.std.specs.Str.{chars}
use denote.Text.{Utf8}
use denote.Shadow.{shadow}
use Rattle.inline_uses.specs.Tokens.{newlines, column_after}
use Rattle.inline_uses.proofs.tokens.Position.after.Given as goal

abbrev pub invariant-loop-ch : goal.invariant-loop-ch
invariant-loop-ch l = shadow (Utf8 l.rest)
    × (l.fn.self.line + length l.text < 2 ^ 64 → (l.at.line + length l.rest < 2 ^ 64)
    × (l.at.line + newlines (chars l.rest) ≡ l.fn.self.line + newlines (chars l.text)))
    × (l.fn.self.column + length l.text < 2 ^ 64 → (l.at.column + length l.rest < 2 ^ 64)
    × (column_after l.at.column (chars l.rest) ≡ column_after l.fn.self.column (chars l.text)))

abbrev pub decreases-loop-ch : goal.decreases-loop-ch
decreases-loop-ch l = length l.rest
