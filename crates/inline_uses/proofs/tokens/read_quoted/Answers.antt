use Rattle.std.proofs.Common.{◌∷◌, [], ◌++◌}
use Rattle.std.specs.Str.{chars}
use Rattle.inline_uses.proofs.Lexemes.{text_is}
use Rattle.inline_uses.proofs.tokens.read_quoted.Goals as goal

pub split_before-requires : goal.split_before-requires
split_before-requires g c =
    let text = c.in-Ok.ensures.ok in (
      34 ∷ text.0 ++ 34 ∷ [],
      text_is _ _ text.0 (chars c.in-Ok.rest.now) _ c.requires.kind c.in-Some.ensures.some text.1,
    )

pub returns-in-Ok-clause-text : goal.returns-in-Ok-clause-text
returns-in-Ok-clause-text g c =
    let text = c.in-Ok.ensures.ok in (
      text.0,
      c.split_before.ensures.front (34 ∷ text.0 ++ 34 ∷ []) (text_is _ _ text.0
          (chars c.in-Ok.rest.now) _ c.requires.kind c.in-Some.ensures.some text.1),
      text.2,
    )
