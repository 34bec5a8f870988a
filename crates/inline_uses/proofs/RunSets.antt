-- An index in which one run is changed.
use Rattle.inline_uses.proofs.Names.{AllByRecursion, HaveFirsts, Index, IsGap, IsIndex, IsOrdered, IsStrictlySortedBy, List, Run, Some, [], ap, arith, common_steps, drop, flat_map-append, gets, ids_of, insert, insert-append_left, insert-append_right, key_order, length, length-insert, length-map, map, refl, runs_of, set, slice_get, subst, suc, sym, take, zero, ℕ, ◌++◌, ◌+◌, ◌-◌, ◌<◌, ◌∙◌, ◌∷◌, ◌≡◌, ◌≤◌}
use Rattle.inline_uses.proofs.InRuns.{flat, flat_at, own_text, set_around, texts_count}
use Rattle.inline_uses.proofs.RunEdits.{sorted_insert}
use Rattle.inline_uses.proofs.Each.{all_at, all_set}
use Rattle.inline_uses.proofs.Search.{inserted_seen}

-- where a text goes among all, it goes in its run
pub gap_in_run : (text_of : ℕ → List ℕ) (text : List ℕ) (runs : List Run) (k at : ℕ) (run : Run)
    → slice_get runs k ≡ Some run → at ≤ length (ids_of run)
    → IsGap (map text_of (flat runs)) text (length (flat (take k runs)) + at)
    → IsGap (map text_of (ids_of run)) text at
gap_in_run text_of text runs k at run is within gap =
    let start = length (flat (take k runs)) in
    let seen = own_text text_of runs k run is in
    let all = texts_count text_of runs k run is in (
      rw length-map within,
      (λ i less. rw (← seen i (omega (arith, less, within)))
          (gap.1 (start + i) (omega (arith, less)))),
      λ i le less.
          let inside = rw length-map at less in
          rw (← seen i inside) (gap.2 (start + i) (omega (arith, le)) (omega (arith, all, inside))),
    )

-- an edit of a list with others before it is one of that list
abbrev pub IsEdit : (List ℕ → ℕ → List ℕ) → Type 0
IsEdit edit = (front rest : List ℕ) (n at : ℕ) → length front ≡ n → n ≤ at
    → edit (front ++ rest) at ≡ front ++ edit rest (at - n)

pub edit_past : (edit : List ℕ → ℕ → List ℕ) → IsEdit edit → (front rest : List ℕ) (at : ℕ)
    → edit (front ++ rest) (length front + at) ≡ front ++ edit rest at
edit_past edit is front rest at =
    let same : length front + at - length front ≡ at = omega arith in
    is front rest (length front) (length front + at) refl (omega arith)
    ∙ ap (λ i. front ++ edit rest i) same

-- the ids of all with other ids in one run
pub flat_set : (runs : List Run) (k : ℕ) (old new : Run) → slice_get runs k ≡ Some old
    → flat (set runs k new) ≡ flat (take k runs) ++ (ids_of new ++ flat (drop (suc k) runs))
flat_set runs k old new is = ap flat (set_around runs k old new is)
    ∙ flat_map-append ids_of (take k runs) (new ∷ drop (suc k) runs)

-- an edit of the ids of one run is one of all
pub flat_edit : (edit : List ℕ → ℕ → List ℕ) → IsEdit edit
    → (runs : List Run) (k at : ℕ) (old new : Run) → slice_get runs k ≡ Some old
    → ((rest : List ℕ) → edit (ids_of old ++ rest) at ≡ edit (ids_of old) at ++ rest)
    → ids_of new ≡ edit (ids_of old) at
    → flat (set runs k new) ≡ edit (flat runs) (length (flat (take k runs)) + at)
flat_edit edit is_edit runs k at old new is within edited =
    let before = flat (take k runs) in
    let after = flat (drop (suc k) runs) in
    flat_set runs k old new is
    ∙ ap (λ ids. before ++ ids) (ap (λ ids. ids ++ after) edited ∙ sym (within after))
    ∙ sym (edit_past edit is_edit before (ids_of old ++ after) at)
    ∙ ap (λ ids. edit ids (length before + at)) (sym (flat_at runs k old is))

pub flat_same : (runs : List Run) (k : ℕ) (old new : Run) → slice_get runs k ≡ Some old
    → ids_of new ≡ ids_of old → flat (set runs k new) ≡ flat runs
flat_same runs k old new is same = flat_edit (λ ids i. ids) (λ front rest n at count past. refl)
    runs k 0 old new is (λ rest. refl) same

-- a run has the first id of another, if that has one
abbrev KeepsFirst : Run → Run → Type 0
KeepsFirst old new =
    (id : ℕ) → slice_get (ids_of old) 0 ≡ Some id → slice_get (ids_of new) 0 ≡ Some id

-- a run whose first id stays leaves the first ids
firsts_set : (ids : List ℕ) (runs : List Run) (k : ℕ) (old new : Run) → HaveFirsts ids runs
    → slice_get runs k ≡ Some old → KeepsFirst old new → HaveFirsts ids (set runs k new)
firsts_set [] [] k old new have is keeps = tt
firsts_set [] (r ∷ runs) k old new have is keeps = absurd have
firsts_set (id ∷ ids) [] k old new have is keeps = absurd have
firsts_set (id ∷ ids) (r ∷ runs) zero old new have is keeps =
    let here : r ≡ old = cc in
    (keeps id (sym (ap (λ r. slice_get (ids_of r) 0) here) ∙ have.0), have.1)
firsts_set (id ∷ ids) (r ∷ runs) (suc k) old new have is keeps =
    (have.0, firsts_set ids runs k old new have.1 is keeps)

pub other_firsts_set : (ids : List ℕ) (runs : List Run) (k : ℕ) (old new : Run)
    → HaveFirsts ids (drop 1 runs) → slice_get runs k ≡ Some old
    → (0 < k → KeepsFirst old new) → HaveFirsts ids (drop 1 (set runs k new))
other_firsts_set ids [] k old new have is keeps = cc
other_firsts_set ids (r ∷ runs) zero old new have is keeps = have
other_firsts_set ids (r ∷ runs) (suc k) old new have is keeps =
    firsts_set ids runs k old new have is (keeps (omega arith))

first_stays : (ids : List ℕ) (at id : ℕ) → 0 < at → at ≤ length ids
    → slice_get (insert ids at id) 0 ≡ slice_get ids 0
first_stays ids at id past within = grind (arith, common_steps, gets, past, within)

abbrev pub IsShort : Run → Type 0
IsShort run = length (ids_of run) ≤ 256

-- an index of runs, and its ids
pub index_of_runs : (text_of : ℕ → List ℕ) (index : Index) (runs : List Run) (ids : List ℕ)
    → runs_of index ≡ runs → flat runs ≡ ids → IsStrictlySortedBy key_order (map text_of ids)
    → AllByRecursion (IsOrdered text_of) runs → AllByRecursion IsShort runs
    → IsOrdered text_of index.starts → HaveFirsts (ids_of index.starts) (drop 1 runs)
    → IsIndex text_of index × (flat (runs_of index) ≡ ids)
index_of_runs text_of index runs ids is all sorted ordered short starts firsts =
    let whole = ap flat is ∙ all in (
      record {
        sorted = subst (λ ids. IsStrictlySortedBy key_order (map text_of ids)) (sym whole) sorted;
        runs = subst (AllByRecursion (IsOrdered text_of)) (sym is) ordered;
        short = subst (AllByRecursion IsShort) (sym is) short;
        starts = starts;
        firsts = subst (λ rs. HaveFirsts (ids_of index.starts) (drop 1 rs)) (sym is) firsts;
      },
      whole,
    )

-- an index in which a run is changed
module _ (text_of : ℕ → List ℕ) (before after : Index) (k : ℕ) (old new : Run)
    (is : IsIndex text_of before) (there : slice_get (runs_of before) k ≡ Some old)
    (runs : runs_of after ≡ set (runs_of before) k new)
    (starts : ids_of after.starts ≡ ids_of before.starts)
    (starts_are : IsOrdered text_of after.starts) (run : IsOrdered text_of new)
  where
    pub changed : (ids : List ℕ) → flat (set (runs_of before) k new) ≡ ids
        → IsStrictlySortedBy key_order (map text_of ids) → length (ids_of new) ≤ 256
        → (0 < k → slice_get (ids_of new) 0 ≡ slice_get (ids_of old) 0)
        → IsIndex text_of after × (flat (runs_of after) ≡ ids)
    changed ids all sorted few first =
        index_of_runs text_of after (set (runs_of before) k new) ids runs all sorted
        (all_set (IsOrdered text_of) (runs_of before) k new is.runs run)
        (all_set IsShort (runs_of before) k new is.short few) starts_are
        (subst (λ ids. HaveFirsts ids (drop 1 (set (runs_of before) k new))) (sym starts)
        (other_firsts_set (ids_of before.starts) (runs_of before) k old new is.firsts there
        (λ past id here. first past ∙ here)))

    -- its ids stay
    pub with_same : ids_of new ≡ ids_of old
        → IsIndex text_of after × (flat (runs_of after) ≡ flat (runs_of before))
    with_same same = changed (flat (runs_of before))
        (flat_same (runs_of before) k old new there same) is.sorted
        (subst (λ ids. length ids ≤ 256) (sym same)
        (all_at IsShort (runs_of before) k old is.short (sym there)))
        (λ past. ap (λ ids. slice_get ids 0) same)

    -- it gets one more
    pub with_more : (at id : ℕ) → at ≤ length (ids_of old) → ids_of new ≡ insert (ids_of old) at id
        → length (ids_of old) < 256 → (0 < k → 0 < at)
        → IsGap (map text_of (flat (runs_of before))) (text_of id)
        (length (flat (take k (runs_of before))) + at)
        → IsIndex text_of after × (flat (runs_of after)
        ≡ insert (flat (runs_of before)) (length (flat (take k (runs_of before))) + at) id)
    with_more at id within grown few past gap =
        let place = length (flat (take k (runs_of before))) + at in
        changed (insert (flat (runs_of before)) place id) (flat_edit (λ ids i. insert ids i id)
        (λ front rest n i. insert-append_right front rest n i id) (runs_of before) k at old new
        there (λ rest. insert-append_left (ids_of old) rest at id within) grown)
        (rw inserted_seen (sorted_insert place (map text_of (flat (runs_of before))) (text_of id)
        is.sorted gap)) (rw (grown, length-insert (ids_of old) at id within) (omega (arith, few)))
        (λ some. ap (λ ids. slice_get ids 0) grown
        ∙ first_stays (ids_of old) at id (past some) within)
