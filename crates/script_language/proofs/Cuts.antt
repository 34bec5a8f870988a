-- Texts that are cut at a mark.
use Rattle.std.proofs.Common.{◌≡◌, ◌≢◌, refl, sym, ◌∙◌, ℕ, ◌==◌, suc, List, [], ◌∷◌, ◌++◌, ◌⊎◌, inl, inr, length, arith}
use Rattle.std.specs.List.{position_or_len}
use Rattle.std.specs.Str.Iter.{LacksByte}
use Rattle.std.specs.Str.Parse.{AllDigits}
use Rattle.std.proofs.lemmas.List.Sums.{fails_before_first}
use Rattle.std.proofs.lemmas.Bool.{eqb-false}
use Rattle.std.proofs.lemmas.Str.Parse.{digit_at}
use Rattle.script_language.specs.Line.{space}

head-lacks : (m b : ℕ) (bs : List ℕ) → LacksByte m (b ∷ bs) → b ≢ m
head-lacks m b bs lacks = lacks 0 (omega arith)

tail-lacks : (m b : ℕ) (bs : List ℕ) → LacksByte m (b ∷ bs) → LacksByte m bs
tail-lacks m b bs lacks k below = lacks (suc k) (omega arith)

-- a text that has the mark doesn't lack it
pub has_mark : (m : ℕ) (front behind : List ℕ) → ¬ (LacksByte m (front ++ m ∷ behind))
has_mark m [] behind lacks = head-lacks m m behind lacks refl
has_mark m (b ∷ front) behind lacks =
    has_mark m front behind (tail-lacks m b (front ++ m ∷ behind) lacks)

-- what follows a word: nothing, or a space and more
abbrev pub StartsApart : List ℕ → Type 0
StartsApart tail = (tail ≡ []) ⊎ ((rest : List ℕ) × (tail ≡ space ∷ rest))

-- no other byte
not_apart : (b : ℕ) (word rest tail : List ℕ) → LacksByte space (b ∷ word) → StartsApart tail
    → tail ≡ b ∷ word ++ rest → ⊥
not_apart b word rest tail lacks (inl none) same = cc
not_apart b word rest tail lacks (inr (more, some)) same =
    head-lacks space b word lacks (search (sym same ∙ some))

-- a line falls into its word and what follows in one way
pub one_split : (one other tail rest : List ℕ) → LacksByte space one → LacksByte space other
    → StartsApart tail → StartsApart rest → one ++ tail ≡ other ++ rest
    → (one ≡ other) × (tail ≡ rest)
one_split [] [] tail rest lacks lacks' apart apart' same = (refl, same)
one_split [] (b ∷ other) tail rest lacks lacks' apart apart' same =
    absurd (not_apart b other rest tail lacks' apart same)
one_split (b ∷ one) [] tail rest lacks lacks' apart apart' same =
    absurd (not_apart b one tail rest lacks apart' (sym same))
one_split (b ∷ one) (d ∷ other) tail rest lacks lacks' apart apart' same =
    let parts = one_split one other tail rest (tail-lacks space b one lacks)
    (tail-lacks space d other lacks') apart apart' (search same) in
    (cc, parts.1)

-- there is one first space
pub same_cut : (front front' behind behind' : List ℕ) → LacksByte space front
    → LacksByte space front' → front ++ space ∷ behind ≡ front' ++ space ∷ behind'
    → (front ≡ front') × (behind ≡ behind')
same_cut front front' behind behind' lacks lacks' same =
    let parts = one_split front front' (space ∷ behind) (space ∷ behind') lacks lacks'
    (inr (behind, refl)) (inr (behind', refl)) same in
    (parts.0, search parts.1)

-- no digit is a space
pub digits_lack_space : (digits : List ℕ) → AllDigits 10 digits → LacksByte space digits
digits_lack_space digits all k below is = absurd (omega (arith, digit_at digits k all below, is))

-- a text in which the mark is at no place lacks it
pub lacks-from_position : (m : ℕ) (bs : List ℕ)
    → position_or_len (λ b. b == m) bs ≡ length bs → LacksByte m bs
lacks-from_position m bs none k below =
    eqb-false _ m (fails_before_first (λ b. b == m) bs k 0 (omega (arith, none)))
