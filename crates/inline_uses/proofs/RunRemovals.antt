-- What has one id less: a run, and an index.
use Rattle.inline_uses.proofs.Names.{HaveFirsts, Index, IsAt, IsIndex, IsOrdered, IsStrictlySortedBy, Less, List, Run, Some, Spot, [], ap, arith, common_steps, drop, drop-append_seam, get_or, get_or-map, gets, ids_at, ids_of, index_of, key_order, length, length-append, length-map, length-remove, map, nat_list_cmp_total, remove, remove-append_left, remove-append_right, runs_of, set, slice_get, slice_get-get_or, sorted_from_all_adjacent, subst, suc, sym, take, with_run, zero, ℕ, ◌++◌, ◌+◌, ◌-◌, ◌<◌, ◌∙◌, ◌∷◌, ◌≡◌, ◌≤◌}
use Rattle.inline_uses.proofs.InRuns.{first_at, flat, ids_at_is, in_order, later_set, later_start}
use Rattle.inline_uses.proofs.IndexRuns.{texts_of}
use Rattle.inline_uses.proofs.RunEdits.{run_of_some}
use Rattle.inline_uses.proofs.RunSets.{IsShort, changed, edit_past, flat_edit, index_of_runs}
use Rattle.inline_uses.proofs.Search.{removed_seen}
use Rattle.inline_uses.proofs.Each.{all_at, all_remove, all_set}
use Rattle.inline_uses.proofs.Owned.{starts_with}
use Rattle.inline_uses.proofs.Spots.{firsts_renamed, runs_with}

-- the others stay in order
pub sorted_remove : (at : ℕ) (ts : List (List ℕ)) → IsStrictlySortedBy key_order ts
    → IsStrictlySortedBy key_order (remove ts at)
unfolding IsStrictlySortedBy
sorted_remove zero [] sorted = tt
sorted_remove zero (t ∷ ts) sorted = sorted.1
sorted_remove (suc at) [] sorted = tt
sorted_remove (suc at) (t ∷ ts) sorted =
    (all_remove (λ y. key_order t y ≡ Less) at ts sorted.0, sorted_remove at ts sorted.1)

-- a run with one mark less
pub run_less : (text_of : ℕ → List ℕ) (old new : Run) (at : ℕ) → new.front ≡ old.front
    → new.marks.items ≡ remove old.marks.items at → IsOrdered text_of old → IsOrdered text_of new
run_less text_of old new at front marks is =
    let items = old.marks.items in
    run_of_some text_of old new (remove items at) front marks
    (rw (removed_seen, removed_seen) (sorted_remove at (texts_of text_of items) is.sorted))
    (all_remove _ at items is.marks)

-- the ids of all without a run of one id
pub flat_gone : (runs : List Run) (k : ℕ) → length (ids_at runs k) ≡ 1
    → flat (remove runs k) ≡ remove (flat runs) (length (flat (take k runs)))
flat_gone [] k one = cc
flat_gone (r ∷ runs) zero one = subst (λ n. flat runs ≡ drop n (ids_of r ++ flat runs)) one
    (sym (drop-append_seam (ids_of r) (flat runs)))
flat_gone (r ∷ runs) (suc k) one = ap (λ ids. ids_of r ++ ids) (flat_gone runs k one)
    ∙ sym (edit_past remove remove-append_right (ids_of r) (flat runs)
    (length (flat (take k runs))))
    ∙ ap (remove (ids_of r ++ flat runs)) (sym (length-append (ids_of r) (flat (take k runs))))

first_left : (ids : List ℕ) (at : ℕ) → 0 < at → slice_get (remove ids at) 0 ≡ slice_get ids 0
first_left ids at past = grind (arith, common_steps, gets, past)

-- the first ids without that of one run
pub have_removed : (ids : List ℕ) (runs : List Run) (k : ℕ) → HaveFirsts ids runs
    → HaveFirsts (remove ids k) (remove runs k)
have_removed [] [] zero have = tt
have_removed [] [] (suc k) have = tt
have_removed [] (r ∷ runs) k have = absurd have
have_removed (id ∷ ids) [] k have = absurd have
have_removed (id ∷ ids) (r ∷ runs) zero have = have.1
have_removed (id ∷ ids) (r ∷ runs) (suc k) have = (have.0, have_removed ids runs k have.1)

module _ (text_of : ℕ → List ℕ) where
  abbrev InOrder : List ℕ → Type 0
  InOrder ids = IsStrictlySortedBy key_order (map text_of ids)

  -- the first ids of runs in order are in order
  firsts_in_order : (ids : List ℕ) (runs : List Run) → InOrder (flat runs)
      → HaveFirsts ids (drop 1 runs) → InOrder ids
  firsts_in_order ids runs sorted have =
      sorted_from_all_adjacent nat_list_cmp_total (map text_of ids) [] (λ k less.
      let second : k + 1 < length ids = rw length-map at less in
      let first : k < length ids = omega (arith, second) in
      let one = first_at ids runs k _ have (slice_get-get_or ids k 0 first) in
      let other = first_at ids runs (k + 1) _ have (slice_get-get_or ids (k + 1) 0 second) in
      rw (get_or-map text_of ids k 0 [] first, get_or-map text_of ids (k + 1) 0 [] second)
      (in_order text_of (flat runs) _ _ (get_or ids k 0) (get_or ids (k + 1) 0) sorted
      (omega (arith, one.1, later_start runs (suc k) (suc (k + 1)) (omega arith))) one.0 other.0))

  -- an index in which a later run of one id is gone
  pub without_run : (before after : Index) (at : ℕ) → IsIndex text_of before
      → length (ids_at before.later.items at) ≡ 1
      → runs_of after ≡ before.first ∷ remove before.later.items at
      → ids_of after.starts ≡ remove (ids_of before.starts) at
      → IsOrdered text_of after.starts → IsIndex text_of after
  without_run before after at is one runs firsts starts =
      let place = length (flat (take (suc at) (runs_of before))) in
      (index_of_runs text_of after (remove (runs_of before) (suc at))
      (remove (flat (runs_of before)) place) runs (flat_gone (runs_of before) (suc at) one)
      (rw removed_seen (sorted_remove place (map text_of (flat (runs_of before))) is.sorted))
      (all_remove (IsOrdered text_of) (suc at) (runs_of before) is.runs)
      (all_remove IsShort (suc at) (runs_of before) is.short) starts
      (rw firsts (have_removed (ids_of before.starts) before.later.items at is.firsts))).0

-- an index of which the run of a spot has one id less
module _ {text_of : ℕ → List ℕ} {before : Index} {spot : Spot} {old new : Run}
    (is : IsIndex text_of before) (at : IsAt before spot)
    (there : slice_get (runs_of before) spot.run ≡ Some old)
    (run : IsOrdered text_of old → IsOrdered text_of new)
    (ids : ids_of new ≡ remove (ids_of old) spot.at)
  where
    abbrev less : Index
    less = with_run before spot.run new

    one_less : (length (ids_of new) + 1 ≡ length (ids_of old)) × (spot.at < length (ids_of old))
    one_less =
        let within = rw (ids_at_is (runs_of before) spot.run old there) at at.within in
        (ap (λ ids. length ids + 1) ids ∙ length-remove (ids_of old) spot.at within, within)

    pub some_left : 1 < length (ids_at (runs_of before) spot.run) → 0 < length (ids_of new)
    some_left more = omega (
      arith,
      one_less.0,
      rw (ids_at_is (runs_of before) spot.run old there) at more,
    )

    few : length (ids_of new) ≤ 256
    few = omega (
      arith,
      one_less.0,
      all_at IsShort (runs_of before) spot.run old is.short (sym there),
    )

    ordered : IsOrdered text_of new
    ordered = run (all_at (IsOrdered text_of) (runs_of before) spot.run old is.runs (sym there))

    abbrev left : List ℕ
    left = remove (flat (runs_of before)) (index_of before spot)

    left_is : flat (set (runs_of before) spot.run new) ≡ left
    left_is = flat_edit remove remove-append_right (runs_of before) spot.run spot.at old new there
        (λ rest. remove-append_left (ids_of old) rest spot.at one_less.1) ids

    left_in_order : InOrder text_of left
    left_in_order = rw removed_seen (sorted_remove (index_of before spot)
        (map text_of (flat (runs_of before))) is.sorted)

    -- the first ids are the same, unless it was one
    pub with_less : (0 < spot.run → 0 < spot.at)
        → IsIndex text_of less × (flat (runs_of less) ≡ left)
    with_less past = changed text_of before less spot.run old new is there
        (runs_with before spot.run new) (ap ids_of (starts_with before spot.run new))
        (rw starts_with is.starts) ordered left left_is left_in_order few
        (λ later. ap (λ ids. slice_get ids 0) ids ∙ first_left (ids_of old) spot.at (past later))

    -- else they have the next one in its place
    module _ {first : ℕ} (past : 0 < spot.run) (next : slice_get (ids_of new) 0 ≡ Some first) where
      abbrev firsts : List ℕ
      firsts = set (ids_of before.starts) (spot.run - 1) first

      firsts_are : HaveFirsts firsts (drop 1 (set (runs_of before) spot.run new))
      firsts_are = subst (λ rs. HaveFirsts firsts (drop 1 rs))
          (later_set before.first new before.later.items spot.run past)
          (firsts_renamed (ids_of before.starts) before.later.items (spot.run - 1) first new
          is.firsts next)

      pub next_in_order : InOrder text_of firsts
      next_in_order = firsts_in_order text_of firsts (set (runs_of before) spot.run new)
          (subst (InOrder text_of) (sym left_is) left_in_order) firsts_are

      pub with_next : (starts : Run) → IsOrdered text_of starts → ids_of starts ≡ firsts
          → let after = record less { starts = starts } in
          IsIndex text_of after × (flat (runs_of after) ≡ left)
      with_next starts starts_are ids = index_of_runs text_of (record less { starts = starts })
          (set (runs_of before) spot.run new) left (runs_with before spot.run new) left_is
          left_in_order (all_set (IsOrdered text_of) (runs_of before) spot.run new is.runs ordered)
          (all_set IsShort (runs_of before) spot.run new is.short few) starts_are
          (subst (λ ids. HaveFirsts ids (drop 1 (set (runs_of before) spot.run new))) (sym ids)
          firsts_are)
