use Rattle.std.proofs.Common.{◌≡◌, ℕ, List, [], ◌∷◌, ◌++◌, refl, ap, arith, codes, length}
use Rattle.inline_uses.specs.Tokens.{HasNoClose}
use Rattle.inline_uses.proofs.worked.sources_begin_with_tokens.Goals as goal

pub returns-clause-text : goal.returns-clause-text
returns-clause-text c = (92 ∷ 110 ∷ [], refl, refl)

-- two more characters are between the first end of the comment and the last
closes : (inside : List ℕ) → codes "/**/*/" ≡ 47 ∷ 42 ∷ inside ++ 42 ∷ 47 ∷ []
    → ¬ (HasNoClose (inside ++ 42 ∷ []))
closes [] is first = absurd (omega (arith, ap length is))
closes (a ∷ []) is first = absurd (omega (arith, ap length is))
closes (a ∷ b ∷ rest) is first =
    let star : a ≡ 42 = cc in
    let slash : b ≡ 47 = cc in
    first [] (rest ++ 42 ∷ []) cc

pub returns-clause-comment : goal.returns-clause-comment
returns-clause-comment c = λ token. closes token.0 token.1 token.2
