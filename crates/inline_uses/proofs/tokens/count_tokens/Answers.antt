use Rattle.std.proofs.Common.{◌∷◌, [], ◌++◌, List, ℕ, length, cond, arith, sym, ap, subst, ◌∙◌, append_assoc, length-append}
use Rattle.std.specs.Str.{chars}
use Rattle.std.proofs.lemmas.List.{append-nil}
use Rattle.std.proofs.lemmas.List.Sums.{sum_by_push}
use Rattle.std.proofs.lemmas.Str.{chars-nil}
use Rattle.inline_uses.specs.declared.tokens.Kind.{Kind}
use Rattle.inline_uses.specs.Tokens.{AreTokens, is_solid}
use Rattle.inline_uses.proofs.Lexemes.{some_length}
use Rattle.inline_uses.proofs.tokens.count_tokens.Goals as goal

pub returns-in_default-clause-count : goal.returns-in_default-clause-count
returns-in_default-clause-count g c =
    let so_far = c.loop-token.invariant.3 in
    let end = rw c.in_default.is at c.in-Ok.ensures.end in
    let P : List (Kind × List ℕ) → Type 0 = λ ts. AreTokens (chars c.args.source.now) ts in
    (so_far.0, subst P (append-nil so_far.0) (so_far.2 [] (ap chars end ∙ chars-nil)), so_far.1)

pub loop-token-preserved : goal.loop-token-preserved
loop-token-preserved g c =
    let passed = c.loop-token.invariant.2 in
    let so_far = c.loop-token.invariant.3 in
    let text = c.in-Some.token.text.now in
    let rest = c.in-Some.token.rest.now in
    let token : Kind × List ℕ = (c.in-Some.token.kind, chars text) in
    let parts = rw c.in-Some.is at c.in-Ok.ensures.parts in
    let split = rw c.in-Some.is at c.in-Ok.ensures.chars in
    let some = some_length text (rw c.in-Some.is at c.in-Ok.ensures.progress) in
    let kind = rw c.in-Some.is at c.in-Ok.ensures.kind in
    let is = rw c.in-Some.is at c.in-Ok.ensures.text in
    let more_solid = sum_by_push (λ t. cond (is_solid t) 1 0) so_far.0 token in
    let sizes = ap length parts ∙ length-append text rest in
    let P : List (Kind × List ℕ) → Type 0 = λ ts. AreTokens (chars c.args.source.now) ts in (
      c.chars_of_parts.ensures.utf8,
      omega (arith, c.loop-token.invariant.1, sizes, some, c.solid_count-count.ensures.most),
      (
        passed.0 ++ chars text,
        passed.1 ∙ ap (λ l. passed.0 ++ l) split
            ∙ sym (append_assoc passed.0 (chars text) (chars rest)),
      ),
      (
        so_far.0 ++ token ∷ [],
        grind (arith, so_far.1, c.solid_count-count.ensures.count, more_solid),
        λ more are. subst P (sym (append_assoc so_far.0 (token ∷ []) more))
            (so_far.2 (token ∷ more) (c.next_token.new.word, chars rest, split, kind, is, are)),
      ),
    )
