-- What a search in a run of an index finds.
use Rattle.std.proofs.lemmas.List.{nil_from_length}
use Rattle.inline_uses.proofs.Names.{All-from_recursion, All-get_or, AllByRecursion, Equal, Greater, IsGap, IsMark, IsOrdered, IsStrictlySortedBy, Less, List, Mark, Ordering, Run, Some, [], ap, append-nil, arith, compare_fronts, drop, exact_bytes, first_front, from_be_bytes, get_or, get_or-map, key_order, length, length-map, map, mark_order, match_ordering, nat_cmp, slice_get, slice_get-get_or, subst, sym, take, w64, ℕ, ◌+◌, ◌-◌, ◌/◌, ◌<◌, ◌∙◌, ◌∷◌, ◌≡◌, ◌≢◌, ◌≤◌}
use Rattle.inline_uses.proofs.Each.{all_weaker}
use Rattle.inline_uses.proofs.Gaps.{gap_between, turned_back}
use Rattle.inline_uses.proofs.IndexMarks.{AreBytes, front_decides, mark_decides}
use Rattle.inline_uses.proofs.Search.{GoesWithin, goes_after, goes_before}

-- as their front compares to that of a text, so do the texts of a run, where the fronts differ
fronts_decide : (text_of : ℕ → List ℕ) (len : ℕ) (front text : List ℕ) (o : Ordering)
    → o ≢ Equal → (marks : List Mark) → AllByRecursion (IsMark text_of len front) marks
    → key_order front (take len text) ≡ o
    → AllByRecursion (λ t. key_order t text ≡ o) (map text_of (map (λ m. m.id) marks))
fronts_decide text_of len front text o differ [] are is = tt
fronts_decide text_of len front text o differ (m ∷ marks) are is = (
  front_decides len (text_of m.id) text o (rw are.0.begins is) differ,
  fronts_decide text_of len front text o differ marks are.1 is,
)

-- the texts of marks
abbrev pub texts_of : (ℕ → List ℕ) → List Mark → List (List ℕ)
texts_of text_of marks = map text_of (map (λ m. m.id) marks)

-- marks have the front of their first text
abbrev pub AreMarks : (ℕ → List ℕ) → ℕ → List Mark → Type 0
AreMarks text_of len marks =
    AllByRecursion (IsMark text_of len (first_front len (texts_of text_of marks))) marks

-- what a search among marks finds: the text, or where it goes
module _ (text_of : ℕ → List ℕ) (len : ℕ) (text : List ℕ) where
  pub below_all : (marks : List Mark) → AreMarks text_of len marks
      → compare_fronts len (texts_of text_of marks) text ≡ Less
      → IsGap (texts_of text_of marks) text (length (texts_of text_of marks))
  below_all [] are less = cc
  below_all (m ∷ marks) are less =
      let texts = texts_of text_of (m ∷ marks) in
      let below = fronts_decide text_of len _ text Less (λ e. cc) (m ∷ marks) are less in
      subst (λ ts. IsGap ts text (length texts)) (append-nil texts)
      (gap_between text texts [] below tt)

  pub above_all : (marks : List Mark) → AreMarks text_of len marks
      → compare_fronts len (texts_of text_of marks) text ≡ Greater
      → IsGap (texts_of text_of marks) text 0
  above_all [] are more = cc
  above_all (m ∷ marks) are more = gap_between text [] (texts_of text_of (m ∷ marks)) tt
      (all_weaker (λ t. key_order t text ≡ Greater) (λ t. key_order text t ≡ Less)
      (λ t. turned_back t text) (texts_of text_of (m ∷ marks))
      (fronts_decide text_of len _ text Greater (λ e. cc) (m ∷ marks) are more))

  -- a text that compares as equal has their front
  has_front : (marks : List Mark) → 0 < length marks
      → compare_fronts len (texts_of text_of marks) text ≡ Equal
      → take len text ≡ first_front len (texts_of text_of marks)
  has_front [] some equal = absurd (omega (arith, some))
  has_front (m ∷ marks) some equal =
      sym (exact_bytes (take len (text_of m.id)) (take len text) equal)

-- what a comparison to the mark at an index says of its text
module _ (text_of : ℕ → List ℕ) (text : List ℕ) (marks : List Mark) (at : ℕ) (mark : Mark)
    (within : at < length marks) (read : mark ≡ get_or marks at mark)
  where
    text_seen : get_or (texts_of text_of marks) at [] ≡ text_of mark.id
    text_seen = get_or-map text_of (map (λ m. m.id) marks) at mark.id [] (rw length-map within)
        ∙ ap text_of (get_or-map (λ m. m.id) marks at mark mark.id within)
        ∙ ap (λ m. text_of m.id) (sym read)

    -- by its text
    pub by_text : (o : Ordering) → o ≡ key_order (text_of mark.id) text
        → key_order (get_or (texts_of text_of marks) at []) text ≡ o
    by_text o is = ap (λ t. key_order t text) text_seen ∙ sym is

    pub found_at : key_order (text_of mark.id) text ≡ Equal
        → slice_get (texts_of text_of marks) at ≡ Some text
    found_at equal = slice_get-get_or (texts_of text_of marks) at []
        (rw (length-map, length-map) within)
        ∙ ap Some (text_seen ∙ exact_bytes (text_of mark.id) text equal)

-- a text goes between two indices of a run, if it has the front
abbrev pub GoesIn : (ℕ → List ℕ) → Run → List ℕ → ℕ → ℕ → Type 0
GoesIn text_of run text start end = let texts = texts_of text_of run.marks.items in
    (start ≤ end) × (end ≤ length run.marks.items)
    × (compare_fronts run.front texts text ≡ Equal → GoesWithin texts text start end)

-- a comparison to the mark in the middle narrows where it goes, or finds it
module _ (text_of : ℕ → List ℕ) (text : List ℕ) {run : Run} {start end : ℕ} {mark : Mark}
    (is : IsOrdered text_of run) (part : GoesIn text_of run text start end) (some : start < end)
    (read : mark ≡ get_or run.marks.items (start + (end - start) / 2) mark)
  where
    abbrev at : ℕ
    at = start + (end - start) / 2

    to : at < end
    to = omega (arith, some)

    within : at < length run.marks.items
    within = omega (arith, to, part.1)

    abbrev Compares : Ordering → Type 0
    Compares o = mark_order text_of (from_be_bytes w64 (drop run.front text)) text mark ≡ o

    -- the mark compares as its text, to one with the front
    by_mark : AreBytes text
        → compare_fronts run.front (texts_of text_of run.marks.items) text ≡ Equal → {o : Ordering}
        → Compares o → key_order (get_or (texts_of text_of run.marks.items) at []) text ≡ o
    by_mark bytes equal {o} compared =
        let marks = run.marks.items in
        let front = first_front run.front (texts_of text_of marks) in
        let are = All-from_recursion (IsMark text_of run.front front) marks is.marks in
        by_text text_of text marks at mark within read o (sym compared
        ∙ mark_decides text_of run.front front text mark (subst (IsMark text_of run.front front)
        (sym read) (All-get_or (IsMark text_of run.front front) marks at mark within are)) bytes
        (has_front text_of run.front text marks (omega (arith, within)) equal))

    pub after_middle : AreBytes text → Compares Less → GoesIn text_of run text (at + 1) end
    after_middle bytes less = (
      omega (arith, to),
      part.1,
      λ equal.
          goes_after _ text start end at is.sorted (part.2 equal) (omega arith) to
          (by_mark bytes equal less),
    )

    pub before_middle : AreBytes text → Compares Greater → GoesIn text_of run text start at
    before_middle bytes more = (
      omega arith,
      omega (arith, within),
      λ equal.
          goes_before _ text start end at is.sorted (part.2 equal) (omega arith) to
          (by_mark bytes equal more),
    )

    pub found_middle : (bits : ℕ) → mark_order text_of bits text mark ≡ Equal
        → slice_get (texts_of text_of run.marks.items) at ≡ Some text
    found_middle bits equal = found_at text_of text run.marks.items at mark within read
        (by (nat_cmp mark.bits bits) equal)
      where
        by : (o : Ordering)
            → match_ordering o Less (key_order (text_of mark.id) text) Greater ≡ Equal
            → key_order (text_of mark.id) text ≡ Equal
        by Less e = cc
        by Equal e = e
        by Greater e = cc

-- where a text goes among none
pub gap_in_none : (texts : List (List ℕ)) (text : List ℕ) → length texts ≡ 0 → IsGap texts text 0
gap_in_none texts text none = rw (nil_from_length texts none) (gap_between text [] [] tt tt)

-- a run of no id
pub no_run : (text_of : ℕ → List ℕ) (run : Run) → run.marks.items ≡ [] → IsOrdered text_of run
unfolding IsStrictlySortedBy
no_run text_of run none = record {
  sorted = subst (λ ms. IsStrictlySortedBy key_order (texts_of text_of ms)) (sym none) tt;
  marks = subst (AreMarks text_of run.front) (sym none) tt;
}
