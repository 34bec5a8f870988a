use Rattle.std.proofs.Common.{◌∷◌, []}
use Rattle.std.specs.Str.{chars}
use Rattle.inline_uses.proofs.Lexemes.{mark_starts}
use Rattle.inline_uses.proofs.tokens.split_mark.Goals as goal

pub split_before-requires : goal.split_before-requires
split_before-requires c = (c.in-Some.field-0-0 ∷ [], c.in-Some.ensures.some)

pub returns-clause-mark : goal.returns-clause-mark
returns-clause-mark c m is =
    c.split_before.ensures.front (m ∷ [])
    (mark_starts (chars c.args.source.now) (chars c.in-Some.rest.now) c.in-Some.field-0-0 m is
    c.in-Some.ensures.some)
