use Rattle.std.proofs.Common.{take, drop, ◌==◌, refl, ap, ◌∙◌}
use Rattle.std.specs.List.{take_while}
use Rattle.std.specs.Str.{chars}
use Rattle.std.specs.Str.Pattern.{FindsChar}
use Rattle.std.specs.Prelude.{Some}
use Rattle.std.proofs.lemmas.List.{take-append-drop}
use Rattle.std.proofs.lemmas.Str.{IsUtf8-take, IsUtf8-drop}
use Rattle.inline_uses.specs.declared.tokens.Kind.TheVariants.{LineComment}
use Rattle.inline_uses.specs.Tokens.{continues}
use Rattle.inline_uses.proofs.Words.{whole_word, front_word}
use Rattle.inline_uses.proofs.tokens.split_line.Goals as goal

pub returns-in-None-clause-front : goal.returns-in-None-clause-front
returns-in-None-clause-front c =
    whole_word (continues LineComment) (λ d. d == 10) (λ d. refl) c.args.source.now c.utf8.source
    c.in-None.ensures.cases

pub returns-in-Some-clause-front : goal.returns-in-Some-clause-front
returns-in-Some-clause-front c =
    let s = c.args.source.now in
    let i = c.in-Some.end in
    let at = c.in-Some.ensures.cases in
    let found : FindsChar 10 s (Some (i, at.0)) = at.1 in
    ap chars c.split_at.ensures.front
    ∙ front_word (continues LineComment) (λ d. d == 10) (λ d. refl) (take i s) (drop i s)
    (drop at.0 s) 10 (IsUtf8-take s i c.utf8.source at.3) (IsUtf8-drop s i c.utf8.source at.3)
    found.0 refl found.1.split
    ∙ ap (λ bs. take_while (continues LineComment) (chars bs)) (take-append-drop i s)
