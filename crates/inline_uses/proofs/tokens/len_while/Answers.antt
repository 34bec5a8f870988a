use Rattle.std.proofs.Common.{rules, arith, length, ℕ, Bool, take, drop, not, ap, ◌∙◌}
use Rattle.std.specs.List.{take_while}
use Rattle.std.specs.Str.{chars}
use Rattle.std.specs.Str.Pattern.{FindsBy}
use Rattle.std.specs.Prelude.{Some}
use Rattle.std.proofs.lemmas.Fn.{always_returns_same}
use Rattle.std.proofs.lemmas.List.{take-append-drop, take_all}
use Rattle.std.proofs.lemmas.Str.{IsUtf8-take, IsUtf8-drop}
use Rattle.inline_uses.specs.Tokens.{continues}
use Rattle.inline_uses.proofs.Words.{twice, whole_word, front_word}
use Rattle.inline_uses.proofs.tokens.len_while.Goals as goal

pub returns-in-None-clause-front : goal.returns-in-None-clause-front
returns-in-None-clause-front c =
    let s = c.args.source.now in
    let t : ℕ → Bool = continues c.args.kind in
    ap chars (take_all (length s) s (omega arith))
    ∙ whole_word t (λ d. not (t d)) (λ d. twice (t d)) s c.utf8.source
    (c.in-None.ensures.cases (λ d. not (t d)) (search (rules, always_returns_same)))

pub returns-in-Some-clause-front : goal.returns-in-Some-clause-front
returns-in-Some-clause-front c =
    let s = c.args.source.now in
    let i = c.in-Some.end in
    let at = c.in-Some.ensures.cases in
    let t : ℕ → Bool = continues c.args.kind in
    let found : FindsBy (λ d. not (t d)) s (Some (i, at.0)) =
    at.1 (λ d. not (t d)) (search (rules, always_returns_same)) in
    front_word t (λ d. not (t d)) (λ d. twice (t d)) (take i s) (drop i s) (drop at.0 s) found.1.0
    (IsUtf8-take s i c.utf8.source at.3) (IsUtf8-drop s i c.utf8.source at.3)
    found.0 found.1.1 found.1.2.split
    ∙ ap (λ bs. take_while t (chars bs)) (take-append-drop i s)
