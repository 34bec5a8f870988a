use Rattle.std.proofs.Common.{◌∙◌, ap}
use Rattle.std.specs.Str.{chars}
use Rattle.inline_uses.proofs.Lexemes.{parts_at}
use Rattle.inline_uses.proofs.tokens.split_before.Goals as goal

pub overflow_sub-source : goal.overflow_sub-source
overflow_sub-source c = (parts_at c.requires.0 c.args.source.now c.args.rest.now c.utf8.source
    c.utf8.rest c.requires.1).0

pub split_at-requires : goal.split_at-requires
split_at-requires c = (parts_at c.requires.0 c.args.source.now c.args.rest.now c.utf8.source
    c.utf8.rest c.requires.1).1

pub returns-clause-front : goal.returns-clause-front
returns-clause-front c front is = ap chars c.split_at.ensures.front
    ∙ (parts_at front c.args.source.now c.args.rest.now c.utf8.source c.utf8.rest is).2

pub returns-clause-rest : goal.returns-clause-rest
returns-clause-rest c = c.split_at.ensures.back ∙ (parts_at c.requires.0 c.args.source.now
    c.args.rest.now c.utf8.source c.utf8.rest c.requires.1).3
