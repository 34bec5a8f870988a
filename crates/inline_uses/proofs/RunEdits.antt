-- What edits leave of a run: a part of it, and one id more.
use Rattle.inline_uses.proofs.Names.{AllByRecursion, Global, IsGap, IsMark, IsOrdered, IsStrictlySortedBy, Less, List, Mark, Run, Some, Vec, [], ap, arith, drop, first_front, insert, key_order, length, length-map, map-append, refl, slice_get, slice_get-map, subst, suc, sym, take, take-append-drop, zero, ℕ, ◌++◌, ◌-◌, ◌∙◌, ◌∷◌, ◌≡◌}
use Rattle.inline_uses.proofs.Each.{all_at, all_drop, all_front, all_insert, all_take}
use Rattle.inline_uses.proofs.Gaps.{parts_of_gap}
use Rattle.inline_uses.proofs.IndexMarks.{between}
use Rattle.inline_uses.proofs.IndexRuns.{AreMarks, texts_of}

-- parts of texts in order are in order, and so are these with one more where it goes
pub sorted_parts : (front rest : List (List ℕ)) → IsStrictlySortedBy key_order (front ++ rest)
    → IsStrictlySortedBy key_order front × IsStrictlySortedBy key_order rest
unfolding IsStrictlySortedBy
sorted_parts [] rest sorted = (tt, sorted)
sorted_parts (t ∷ front) rest sorted =
    let parts = sorted_parts front rest sorted.1 in
    ((all_front (λ y. key_order t y ≡ Less) front rest sorted.0, parts.0), parts.1)

-- a text that does not go before the first of others goes among the rest
pub gap_in_rest : (text : List ℕ) (ts : List (List ℕ)) (t : List ℕ) (at : ℕ)
    → IsGap (t ∷ ts) text (suc at) → IsGap ts text at
gap_in_rest text ts t at gap = (
  omega (arith, gap.0),
  (λ i less. gap.1 (suc i) (omega arith)),
  λ i le less. gap.2 (suc i) (omega arith) (omega arith),
)

pub sorted_insert : (at : ℕ) (ts : List (List ℕ)) (new : List ℕ) → IsStrictlySortedBy key_order ts
    → IsGap ts new at → IsStrictlySortedBy key_order (insert ts at new)
unfolding IsStrictlySortedBy
sorted_insert zero ts new sorted gap = ((parts_of_gap new ts zero gap).1, sorted)
sorted_insert (suc at) [] new sorted gap = (tt, tt)
sorted_insert (suc at) (t ∷ ts) new sorted gap =
    let parts = parts_of_gap new (t ∷ ts) (suc at) gap in (
      all_insert (λ y. key_order t y ≡ Less) at ts new sorted.0 parts.0.0,
      sorted_insert at ts new sorted.1 (gap_in_rest new ts t at gap),
    )

-- marks with any front are those with the front of their first text
pub with_own_front : (text_of : ℕ → List ℕ) (len : ℕ) (front : List ℕ) (marks : List Mark)
    → AllByRecursion (IsMark text_of len front) marks → AreMarks text_of len marks
with_own_front text_of len front [] are = tt
with_own_front text_of len front (m ∷ marks) are =
    subst (λ f. AllByRecursion (IsMark text_of len f) (m ∷ marks)) (sym are.0.begins) are

-- what the first and the last of texts in order begin with, each begins with
all_begin : (n : ℕ) (first last : List ℕ) (ts : List (List ℕ))
    → AllByRecursion (λ t. key_order first t ≡ Less) ts → IsStrictlySortedBy key_order ts
    → Some last ≡ slice_get (first ∷ ts) (length ts) → take n first ≡ take n last
    → AllByRecursion (λ t. take n t ≡ take n first) ts
unfolding IsStrictlySortedBy
all_begin n first last [] above sorted is same = tt
all_begin n first last (t ∷ []) above sorted is same =
    let end : t ≡ last = cc in
    (ap (take n) end ∙ sym same, tt)
all_begin n first last (t ∷ u ∷ ts) above sorted is same = (
  between n first t last same above.0
      (all_at (λ y. key_order t y ≡ Less) (u ∷ ts) (length ts) last sorted.0 is),
  all_begin n first last (u ∷ ts) above.1 sorted.1 is same,
)

-- these are the texts of the first and of the last mark
pub record AreEnds (text_of : ℕ → List ℕ) (marks : List Mark) (one other : List ℕ) : Type 0 where
  pub first : Mark
  pub last : Mark
  pub begins : Some first ≡ slice_get marks 0
  pub ends : Some last ≡ slice_get marks (length marks - 1)
  pub one_is : one ≡ text_of first.id
  pub other_is : other ≡ text_of last.id

-- what both have in common, all texts in order begin with
pub lengthened : (text_of : ℕ → List ℕ) (n : ℕ) (marks : List Mark) {one other : List ℕ}
    → AreEnds text_of marks one other → IsStrictlySortedBy key_order (texts_of text_of marks)
    → take n one ≡ take n other
    → AllByRecursion (λ t. take n t ≡ first_front n (texts_of text_of marks))
    (texts_of text_of marks)
unfolding IsStrictlySortedBy
lengthened text_of n [] are sorted same = tt
lengthened text_of n (m ∷ marks) are sorted same =
    let begins = are.begins in
    let head : m ≡ are.first = cc in
    let at : length (m ∷ marks) - 1 ≡ length (texts_of text_of marks)
    = rw (length-map, length-map) (omega arith) in
    let end : Some (text_of are.last.id) ≡ slice_get (texts_of text_of (m ∷ marks))
    (length (texts_of text_of marks))
    = rw (slice_get-map, slice_get-map, ← at, ← are.ends) refl in (
      refl,
      all_begin n (text_of m.id) (text_of are.last.id) (texts_of text_of marks) sorted.0 sorted.1
          end (ap (λ m. take n (text_of m.id)) head ∙ rw (are.one_is, are.other_is) at same),
    )

-- some marks of a run are a run
pub run_of_some : (text_of : ℕ → List ℕ) (old new : Run) (some : List Mark) → new.front ≡ old.front
    → new.marks.items ≡ some → IsStrictlySortedBy key_order (texts_of text_of some)
    → AllByRecursion (IsMark text_of old.front
    (first_front old.front (texts_of text_of old.marks.items))) some → IsOrdered text_of new
run_of_some text_of old new some front marks sorted all = record {
  sorted = rw marks sorted;
  marks = rw (front, marks) (with_own_front text_of old.front _ some all);
}

-- and so are both parts of its marks
module _ (text_of : ℕ → List ℕ) (run : Run) (at : ℕ) (marks : Vec Mark Global)
    (is : IsOrdered text_of run)
  where
    abbrev items : List Mark
    items = run.marks.items

    parts : IsStrictlySortedBy key_order (texts_of text_of (take at items))
        × IsStrictlySortedBy key_order (texts_of text_of (drop at items))
    parts = sorted_parts (texts_of text_of (take at items)) (texts_of text_of (drop at items))
        (rw (← map-append, ← map-append, take-append-drop) is.sorted)

    pub lower_run : marks.items ≡ take at items
        → IsOrdered text_of (record { front = run.front; marks = marks })
    lower_run part = run_of_some text_of run (record { front = run.front; marks = marks })
        (take at items) refl part parts.0 (all_take _ at items is.marks)

    pub upper_run : marks.items ≡ drop at items
        → IsOrdered text_of (record { front = run.front; marks = marks })
    upper_run part = run_of_some text_of run (record { front = run.front; marks = marks })
        (drop at items) refl part parts.1 (all_drop _ at items is.marks)
