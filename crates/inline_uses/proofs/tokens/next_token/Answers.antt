use Rattle.std.proofs.Common.{sym, ap, ◌∙◌}
use Rattle.std.specs.Str.{chars}
use Rattle.std.proofs.lemmas.Str.{chars-nil}
use Rattle.inline_uses.proofs.Lexemes.{nothing_left, token_has_text}
use Rattle.inline_uses.proofs.tokens.next_token.Goals as goal

pub returns-in_default-clause-end : goal.returns-in_default-clause-end
returns-in_default-clause-end g c =
    nothing_left c.args.source.now c.utf8.source (sym c.kind_at.ensures ∙ c.in_default.is)

pub returns-in-Ok-clause-progress : goal.returns-in-Ok-clause-progress
returns-in-Ok-clause-progress g c none =
    token_has_text c.in-Some.kind (chars c.args.source.now) (chars c.in-Ok.text.now)
    c.read_token.new.word (sym c.kind_at.ensures ∙ c.in-Some.is) c.in-Ok.ensures.text
    (ap chars none ∙ chars-nil)
