use Rattle.std.proofs.Common.{◌∷◌, [], sym, ap, ◌∙◌}
use Rattle.std.specs.Str.{chars}
use Rattle.inline_uses.proofs.Lexemes.{plain_one, escaped_one}
use Rattle.inline_uses.proofs.tokens.read_char.Goals as goal

pub returns-then-first-ne92-clause-char : goal.returns-then-first-ne92-clause-char
returns-then-first-ne92-clause-char c = (
  c.in-Some.first ∷ [],
  c.in-Some.ensures.some,
  plain_one c.in-Some.first c.if-first-eq34.false c.if-first-ne92.true,
)

pub returns-in-Some-unescape-clause-char : goal.returns-in-Some-unescape-clause-char
returns-in-Some-unescape-clause-char c =
    let letter = c.in-Some-split_first.letter in (
      92 ∷ letter ∷ [],
      c.in-Some.ensures.some ∙ ap (λ d. d ∷ chars c.in-Some.rest.now) c.if-first-ne92.false
          ∙ ap (λ l. 92 ∷ l) c.in-Some-split_first.ensures.some,
      escaped_one letter c.in-Some-unescape.ch (sym c.unescape.ensures ∙ c.in-Some-unescape.is),
    )
