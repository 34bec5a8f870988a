use Rattle.std.proofs.Common.{◌≡◌, ◌∷◌, [], ◌++◌, None, Some, drop, ap, sym, ◌∙◌}
use Rattle.std.specs.Str.{chars}
use Rattle.std.proofs.lemmas.Str.Pattern.{split_text_parts}
use Rattle.inline_uses.proofs.Lexemes.{no_close, none_before, comment_is}
use Rattle.inline_uses.proofs.tokens.split_comment.Goals.{In-Some}
use Rattle.inline_uses.proofs.tokens.split_comment.Goals as goal

pub returns-in-None-clause-none : goal.returns-in-None-clause-none
returns-in-None-clause-none c front back is =
    let s = c.in_ok-inside.inside.now in
    let whole = c.in_ok-after.ensures.some
    ∙ ap (λ l. c.in_ok-after.field-0-0 ∷ l) c.in_ok-inside.ensures.some in
    no_close s c.in_ok-inside.ensures.utf8
    (split_text_parts (42 ∷ 47 ∷ []) s None c.in-None.ensures.cases) front back
    (sym (ap (drop 2) whole) ∙ is)

split_at_close : (c : In-Some)
    → c.in_ok-inside.inside.now ≡ c.in-Some.field-0-0.now ++ 42 ∷ 47 ∷ c.in-Some.rest.now
split_at_close c = split_text_parts (42 ∷ 47 ∷ []) c.in_ok-inside.inside.now
    (Some (c.in-Some.field-0-0, c.in-Some.rest)) c.in-Some.ensures.cases

is_comment : (c : In-Some) → chars c.args.source.now
    ≡ (47 ∷ 42 ∷ chars c.in-Some.field-0-0.now ++ 42 ∷ 47 ∷ []) ++ chars c.in-Some.rest.now
is_comment c = comment_is _ _ c.in_ok-inside.inside.now c.in-Some.field-0-0.now
    c.in-Some.rest.now _ _ c.requires c.in_ok-after.ensures.some c.in_ok-inside.ensures.some
    c.in_ok-inside.ensures.utf8 (split_at_close c)

pub split_before-requires : goal.split_before-requires
split_before-requires c = (
  47 ∷ 42 ∷ chars c.in-Some.field-0-0.now ++ 42 ∷ 47 ∷ [],
  is_comment (goal.at.split_before-requires c).In-Some,
)

pub returns-in-Some-clause-text : goal.returns-in-Some-clause-text
returns-in-Some-clause-text c =
    let text = c.in-Some.field-0-0.now in (
      chars text,
      c.split_before.ensures.front (47 ∷ 42 ∷ chars text ++ 42 ∷ 47 ∷ [])
          (is_comment (goal.at.returns-in-Some-clause-text c).In-Some),
      none_before c.in_ok-inside.inside.now text c.in-Some.rest.now c.in_ok-inside.ensures.utf8
          (split_at_close (goal.at.returns-in-Some-clause-text c).In-Some)
          (rw (← c.in-Some.ensures.cases.6) at c.in-Some.ensures.cases.2.0),
    )
