-- A run with one id more, where its text goes.
use Rattle.inline_uses.proofs.Names.{AllByRecursion, IsGap, IsMark, IsOrdered, IsShared, IsStrictlySortedBy, List, Mark, Run, Some, [], ap, arith, drop, first_front, from_be_bytes, insert, key_order, map, slice_get, subst, sym, take, take-take, w64, ℕ, ◌∙◌, ◌∷◌, ◌≡◌, ◌≤◌}
use Rattle.inline_uses.proofs.IndexMarks.{AreBytes}
use Rattle.inline_uses.proofs.RunEdits.{sorted_insert, with_own_front}
use Rattle.inline_uses.proofs.IndexRuns.{AreMarks, texts_of}
use Rattle.inline_uses.proofs.Each.{all_map, all_weaker}
use Rattle.inline_uses.proofs.Search.{inserted_seen}

-- a text that begins as that of the first mark shares as much with all
pub shared_with_first : (text_of : ℕ → List ℕ) (len : ℕ) (text : List ℕ) (marks : List Mark)
    (first : Mark) → Some first ≡ slice_get marks 0 → take len (text_of first.id) ≡ take len text
    → IsShared len text (texts_of text_of marks)
shared_with_first text_of len text [] first is same = tt
shared_with_first text_of len text (m ∷ marks) first is same =
    let it : m ≡ first = cc in
    rw it same

-- the first id is that of the first mark
pub first_id : (marks : List Mark) (first : Mark) (id : ℕ) → Some first ≡ slice_get marks 0
    → slice_get (map (λ m. m.id) marks) 0 ≡ Some id → first.id ≡ id
first_id [] first id is there = cc
first_id (m ∷ marks) first id is there = cc

-- a text with the front of marks has what they begin with
begin_all : (text_of : ℕ → List ℕ) (n len : ℕ) (text : List ℕ) (marks : List Mark) → n ≤ len
    → AreMarks text_of len marks → IsShared n text (texts_of text_of marks)
    → AllByRecursion (λ m. take n (text_of m.id) ≡ take n text) marks
begin_all text_of n len text [] less are shared = tt
begin_all text_of n len text (first ∷ marks) less are shared =
    all_weaker (IsMark text_of len (take len (text_of first.id)))
    (λ m. take n (text_of m.id) ≡ take n text)
    (λ m is. sym (take-take n len (text_of m.id) less) ∙ ap (take n) is.begins
    ∙ take-take n len (text_of first.id) less ∙ shared) (first ∷ marks) are

-- marks that begin alike begin as the first one
begin_first : (text_of : ℕ → List ℕ) (n : ℕ) (front : List ℕ) (marks : List Mark)
    → AllByRecursion (λ m. take n (text_of m.id) ≡ front) marks
    → AllByRecursion (λ t. take n t ≡ first_front n (texts_of text_of marks))
    (texts_of text_of marks)
begin_first text_of n front [] all = tt
begin_first text_of n front (m ∷ marks) all =
    subst (λ f. AllByRecursion (λ t. take n t ≡ f) (texts_of text_of (m ∷ marks))) (sym all.0)
    (all_map _ text_of (map (λ m. m.id) (m ∷ marks)) (all_map _ (λ m. m.id) (m ∷ marks) all))

-- marks with the front of their first text have that of any text that has it
own_front : (text_of : ℕ → List ℕ) (len : ℕ) (text : List ℕ) (marks : List Mark)
    → AreMarks text_of len marks → IsShared len text (texts_of text_of marks)
    → AllByRecursion (IsMark text_of len (take len text)) marks
own_front text_of len text [] are shared = tt
own_front text_of len text (m ∷ marks) are shared =
    subst (λ front. AllByRecursion (IsMark text_of len front) (m ∷ marks)) shared are

-- marks that are those of a run and a new one
module _ (text_of : ℕ → List ℕ) (old : Run) (mark : Mark) (text : List ℕ)
    (read : text ≡ text_of mark.id) (is : IsOrdered text_of old)
  where
    abbrev AreEdited : List Mark → Type 1
    AreEdited new =
        (P : Mark → Type 0) → AllByRecursion P old.marks.items → P mark → AllByRecursion P new

    -- all begin as the new text does, as far as it has their front
    pub run_shared : (new : List Mark) → AreEdited new → (n : ℕ) → n ≤ old.front
        → IsShared n text (texts_of text_of old.marks.items)
        → AllByRecursion (λ t. take n t ≡ first_front n (texts_of text_of new))
        (texts_of text_of new)
    run_shared new edit n less shared = begin_first text_of n (take n text) new
        (edit (λ m. take n (text_of m.id) ≡ take n text)
        (begin_all text_of n old.front text old.marks.items less is.marks shared)
        (ap (take n) (sym read)))

    -- they are a run if the new text has all of the front
    pub run_with : (new : Run) → AreEdited new.marks.items → (n : ℕ) → n ≤ old.front
        → new.front ≤ n → IsShared n text (texts_of text_of old.marks.items)
        → mark.bits ≡ from_be_bytes w64 (drop n text) → AreBytes text → new.front ≡ old.front
        → IsStrictlySortedBy key_order (texts_of text_of new.marks.items) → IsOrdered text_of new
    run_with new edit n less most shared bits bytes front sorted =
        let same : n ≡ old.front = omega arith in
        let are = subst (λ len. AreMarks text_of len old.marks.items) (sym same) is.marks in
        record {
          sorted = sorted;
          marks = subst (λ len. AreMarks text_of len new.marks.items) (same ∙ sym front)
              (with_own_front text_of n (take n text) new.marks.items
              (edit (IsMark text_of n (take n text))
              (own_front text_of n text old.marks.items are shared) (record {
                begins = ap (take n) (sym read);
                bits = bits ∙ ap (λ t. from_be_bytes w64 (drop n t)) read;
                bytes = subst AreBytes read bytes;
              })));
        }

-- a mark more is an id more, and a text more
module _ (text_of : ℕ → List ℕ) (old new : List Mark) (mark : Mark) (at : ℕ)
    (marks : new ≡ insert old at mark)
  where
    pub ids_grown : map (λ m. m.id) new ≡ insert (map (λ m. m.id) old) at mark.id
    ids_grown = ap (map (λ m. m.id)) marks ∙ inserted_seen (λ m. m.id) old at mark

    pub sorted_grown : IsStrictlySortedBy key_order (texts_of text_of old)
        → IsGap (texts_of text_of old) (text_of mark.id) at
        → IsStrictlySortedBy key_order (texts_of text_of new)
    sorted_grown sorted gap = rw (ids_grown, inserted_seen)
        (sorted_insert at (texts_of text_of old) (text_of mark.id) sorted gap)
