-- How many first bytes texts have in common.
use Rattle.std.proofs.lemmas.Bool.Decides.{nat_tests}
use Rattle.std.proofs.Common.{eqb}
use Rattle.inline_uses.proofs.Names.{Equal, Greater, IsMark, Less, List, Mark, Ordering, Some, [], arith, common, cond, first_front, get_or, last_of, length, longest_front, map, match_ordering, min, nat_cmp, nat_cmp_total, ranked, refl, slice_get, subst, suc, sym, take, tied_itself, zero, ℕ, ◌-◌, ◌<◌, ◌∙◌, ◌∷◌, ◌≡◌, ◌≢◌, ◌≤◌}
use Rattle.inline_uses.proofs.IndexRuns.{AreMarks, texts_of}
use Rattle.inline_uses.proofs.Each.{all_at}
use Rattle.inline_uses.proofs.RunEdits.{AreEnds}

-- by their first bytes
common_cons : (x y : ℕ) (xs ys : List ℕ)
    → common (x ∷ xs) (y ∷ ys) ≡ cond (eqb x y) (suc (common xs ys)) 0
common_cons x y xs ys = by (nat_cmp x y) refl
  where
    by : (o : Ordering) → nat_cmp x y ≡ o
        → match_ordering o 0 (suc (common xs ys)) 0 ≡ cond (eqb x y) (suc (common xs ys)) 0
    by Less is = let less = ranked x y Less (sym is) in grind (arith, nat_tests)
    by Equal is = let same = ranked x y Equal (sym is) in grind (arith, nat_tests)
    by Greater is = let more = ranked x y Greater (sym is) in grind (arith, nat_tests)

-- texts that begin alike have that in common
pub common_least : (xs ys : List ℕ) (n : ℕ) → take n xs ≡ take n ys → n ≤ length xs
    → n ≤ length ys → n ≤ common xs ys
common_least xs ys zero same one other = omega arith
common_least (x ∷ xs) (y ∷ ys) (suc n) same one other =
    let heads : x ≡ y = cc in
    let rest = common_least xs ys n (cc) (omega (arith, one)) (omega (arith, other)) in
    rw (heads, tied_itself nat_cmp_total y) (omega (arith, rest))
common_least xs ys (suc n) same one other = absurd (omega (arith, one, other))

-- what texts have in common is so of each front of it
pub common_take : (xs ys : List ℕ) (n : ℕ) → n ≤ common xs ys → take n xs ≡ take n ys
common_take xs ys zero within = refl
common_take (x ∷ xs) (y ∷ ys) (suc n) within =
    let is = common_cons x y xs ys in grind (arith, nat_tests, common_take xs ys n)
common_take xs ys (suc n) within = absurd (omega (arith, within))

-- fronts that differ are longer than that
pub common_less : (xs ys : List ℕ) (n : ℕ) → take n xs ≢ take n ys → common xs ys < n
common_less xs ys n differ =
    let within : n ≤ common xs ys → ⊥ = λ le. differ (common_take xs ys n le) in
    grind (arith, within)

-- texts that differ at an index have no more in common
pub common_most : (xs ys : List ℕ) (n : ℕ) → n < length xs → n < length ys
    → get_or xs n 0 ≢ get_or ys n 0 → common xs ys ≤ n
common_most (x ∷ xs) (y ∷ ys) zero one other differ =
    let is = common_cons x y xs ys in grind (arith, nat_tests, differ)
common_most (x ∷ xs) (y ∷ ys) (suc n) one other differ =
    let is = common_cons x y xs ys in
    let rest = common_most xs ys n (omega (arith, one)) (omega (arith, other)) differ in
    grind (arith, nat_tests)
common_most xs ys n one other differ = absurd (omega (arith, one, other))

-- texts have no more in common than they have
pub common_within : (xs ys : List ℕ) → (common xs ys ≤ length xs) × (common xs ys ≤ length ys)
common_within (x ∷ xs) (y ∷ ys) =
    let is = common_cons x y xs ys in
    let rest = common_within xs ys in
    (grind (arith, nat_tests), grind (arith, nat_tests))
common_within xs ys = (omega arith, omega arith)

pub ruleset common_known = (common_least, common_most, common_within)

-- the first and the last text of marks have their front
pub ends_share : {text_of : ℕ → List ℕ} {marks : List Mark} {one other : List ℕ} (len : ℕ)
    → AreEnds text_of marks one other → AreMarks text_of len marks → take len one ≡ take len other
ends_share {text_of} {marks} len ends are =
    let at = all_at (IsMark text_of len (first_front len (texts_of text_of marks))) marks in
    rw (ends.one_is, ends.other_is) ((at 0 ends.first are ends.begins).begins
    ∙ sym (at (length marks - 1) ends.last are ends.ends).begins)

last_is : (m last : Mark) (marks : List Mark) → Some last ≡ slice_get (m ∷ marks) (length marks)
    → last_of m.id (map (λ m. m.id) marks) ≡ last.id
last_is m last [] is = cc
last_is m last (next ∷ marks) is = last_is next last marks is

-- the longest front of marks is what the first and the last text have in common
pub longest_is : (text_of : ℕ → List ℕ) (marks : List Mark) {one other : List ℕ} {front : ℕ}
    → AreEnds text_of marks one other → front ≡ min 256 (common one other)
    → longest_front text_of (map (λ m. m.id) marks) ≡ front
longest_is text_of [] ends shared = let begins = ends.begins in cc
longest_is text_of (m ∷ marks) ends shared =
    let begins = ends.begins in
    let head : m ≡ ends.first = cc in
    let count : length (m ∷ marks) - 1 ≡ length marks = omega arith in
    let end = last_is m ends.last marks
    (subst (λ i. Some ends.last ≡ slice_get (m ∷ marks) i) count ends.ends) in
    rw (end, head) (sym (rw (ends.one_is, ends.other_is) at shared))
