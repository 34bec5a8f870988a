-- Spots of ids: where they are among all ids, and other ids there.
use Rattle.inline_uses.proofs.Names.{AllocError, Err, HaveFirsts, Index, IsAt, IsGap, IsIndex, IsOrdered, IsSpot, List, Ok, OnErr, OnOk, Result, Run, Some, Spot, [], ap, arith, common_steps, drop, gets, ids_at, ids_in, ids_of, index_of, insert, length, length-map, length-set, map, refl, runs_of, set, set-append_left, set-append_right, slice_get, slice_get-map, slice_get_within, subst, suc, sym, with_item, with_run, zero, ℕ, ⊤, ◌+◌, ◌-◌, ◌<◌, ◌∙◌, ◌∷◌, ◌≡◌}
use Rattle.inline_uses.proofs.InRuns.{IsReplaced, after_first, flat, gap_in_flat, id_of_text, ids_at_is, later_set, later_there, run_of_first, run_within, text_in_flat}
use Rattle.inline_uses.proofs.RunSets.{flat_edit, gap_in_run, other_firsts_set, with_more, with_same}
use Rattle.inline_uses.proofs.SameTexts.{AreRenamed, HaveTexts, IsRenamed, StaysOrdered, one_renamed, renamed_index, same_run}
use Rattle.inline_uses.proofs.Owned.{starts_with}

-- a text beside an index
module _ (text_of : ℕ → List ℕ) (text : List ℕ) (index : Index) where
  abbrev texts_in : List (List ℕ)
  texts_in = map text_of (ids_in index)

  abbrev IsThere : Spot → Type 0
  IsThere spot = IsAt index spot × (slice_get texts_in (index_of index spot) ≡ Some text)

  -- what is found in the run of a spot is at the spot
  pub found_spot : (spot : Spot) (run : Run) → slice_get (runs_of index) spot.run ≡ Some run
      → slice_get (map text_of (ids_of run)) spot.at ≡ Some text → IsThere spot
  found_spot spot run there found =
      let within = slice_get_within (runs_of index) spot.run run there in
      let id = id_of_text text_of text (ids_of run) spot.at found in (
        record {
          run = omega (arith, within);
          within = rw (ids_at_is (runs_of index) spot.run run there)
              (slice_get_within (ids_of run) spot.at id.0 id.1);
        },
        text_in_flat text_of text (runs_of index) spot.run spot.at run there found,
      )

  -- what is found by the first ids is at the first spot of a later run
  pub first_spot : (at : ℕ) → HaveFirsts (ids_of index.starts) index.later.items
      → slice_get (map text_of (ids_of index.starts)) at ≡ Some text
      → IsThere (record { run = at + 1; at = 0 })
  first_spot at have found =
      let id = id_of_text text_of text (ids_of index.starts) at found in
      let first = run_of_first (ids_of index.starts) index.later.items at id.0 have id.1 in
      let before : at + 1 - 1 ≡ at = omega arith in
      found_spot (record { run = at + 1; at = 0 }) first.0
      (later_there index.first index.later.items (at + 1) first.0 (omega arith)
      (ap (slice_get index.later.items) before ∙ first.1))
      (rw (slice_get-map, first.2) id.2)

  -- where a text goes in the run in which it goes is a spot, and there it goes among all
  pub gap_spot : (spot : Spot) (run : Run) → slice_get (runs_of index) spot.run ≡ Some run
      → IsIndex text_of index → IsGap (map text_of (ids_of index.starts)) text spot.run
      → IsGap (map text_of (ids_of run)) text spot.at
      → IsSpot index spot × IsGap texts_in text (index_of index spot)
  gap_spot spot run there is among here =
      let starts = ids_of index.starts in (
        record {
          run = run_within text_of text starts index.later.items spot.run is.firsts among;
          within = rw (ids_at_is (runs_of index) spot.run run there) (rw length-map at here.0);
          after = after_first text_of text starts (runs_of index) spot.run spot.at run is.firsts
              among there here;
        },
        gap_in_flat text_of text starts (runs_of index) spot.run spot.at run is.sorted is.firsts
            among there here,
      )

-- an index with another run
pub with_later : (index : Index) (k : ℕ) (run : Run) → 0 < k
    → record index { later = with_item index.later (k - 1) run } ≡ with_run index k run
with_later index zero run past = absurd (omega (arith, past))
with_later index (suc k) run past =
    let before : suc k - 1 ≡ k = omega arith in
    ap (λ i. record index { later = with_item index.later i run }) before

pub runs_with : (index : Index) (k : ℕ) (run : Run)
    → runs_of (with_run index k run) ≡ set (runs_of index) k run
runs_with index zero run = refl
runs_with index (suc k) run = refl

pub run_replaced : (index : Index) (k : ℕ) (old new : Run) → slice_get (runs_of index) k ≡ Some old
    → IsReplaced index (with_run index k new) k old new
run_replaced index k old new there = record { there = there; runs = runs_with index k new }

-- where a text goes among all
module _ (text_of : ℕ → List ℕ) (index : Index) (spot : Spot) (id : ℕ) (old : Run)
    (there : slice_get (runs_of index) spot.run ≡ Some old) (is : IsSpot index spot)
    (gap : IsGap (map text_of (ids_in index)) (text_of id) (index_of index spot))
  where
    seen : ids_at (runs_of index) spot.run ≡ ids_of old
    seen = ids_at_is (runs_of index) spot.run old there

    -- it goes in its run, which may get it there
    pub gap_at : IsGap (map text_of (ids_of old)) (text_of id) spot.at
    gap_at = gap_in_run text_of (text_of id) (runs_of index) spot.run spot.at old there
        (rw seen at is.within) gap

    pub added_at : IsIndex text_of index → length (ids_at (runs_of index) spot.run) < 256
        → (new : Run) (r : Result ⊤ AllocError) → IsOrdered text_of new
        → OnOk r (ids_of new ≡ insert (ids_of old) spot.at id) → OnErr r (ids_of new ≡ ids_of old)
        → IsIndex text_of (with_run index spot.run new)
        × (OnOk r (ids_in (with_run index spot.run new) ≡ insert (ids_in index)
        (index_of index spot) id)) × OnErr r (ids_in (with_run index spot.run new) ≡ ids_in index)
    added_at was room new (Ok u) run ok err =
        let more = with_more text_of index (with_run index spot.run new) spot.run old new was there
        (runs_with index spot.run new) (ap ids_of (starts_with index spot.run new))
        (rw starts_with was.starts) run spot.at id
        (rw seen at is.within) ok (rw seen at room) is.after gap in
        (more.0, more.1, tt)
    added_at was room new (Err e) run ok err =
        let same = with_same text_of index (with_run index spot.run new) spot.run old new was there
        (runs_with index spot.run new) (ap ids_of (starts_with index spot.run new))
        (rw starts_with was.starts) run err in
        (same.0, tt, same.1)

-- another first id of a run is another one of the first ids
pub firsts_renamed : (ids : List ℕ) (runs : List Run) (k id : ℕ) (new : Run) → HaveFirsts ids runs
    → slice_get (ids_of new) 0 ≡ Some id → HaveFirsts (set ids k id) (set runs k new)
firsts_renamed [] [] k id new have first = tt
firsts_renamed [] (r ∷ runs) k id new have first = absurd have
firsts_renamed (i ∷ ids) [] k id new have first = absurd have
firsts_renamed (i ∷ ids) (r ∷ runs) zero id new have first = (first, have.1)
firsts_renamed (i ∷ ids) (r ∷ runs) (suc k) id new have first =
    (have.0, firsts_renamed ids runs k id new have.1 first)

-- the first id, where an id is another
first_is : (ids : List ℕ) (at id : ℕ) → at < length ids → at ≡ 0
    → slice_get (set ids at id) 0 ≡ Some id
first_is ids at id within is = grind (arith, common_steps, gets, within, is)

first_stays : (ids : List ℕ) (at id : ℕ) → 0 < at → slice_get (set ids at id) 0 ≡ slice_get ids 0
first_stays ids at id past = grind (arith, common_steps, gets, past)

-- an index in which the id at a spot is another
module _ (index : Index) (spot : Spot) (id : ℕ) (old new : Run) (at : IsAt index spot)
    (there : slice_get (runs_of index) spot.run ≡ Some old)
    (ids : ids_of new ≡ set (ids_of old) spot.at id)
  where
    within : spot.at < length (ids_of old)
    within = rw (ids_at_is (runs_of index) spot.run old there) at at.within

    abbrev lent : Index
    lent = with_run index spot.run new

    pub ids_renamed : ids_in lent ≡ set (ids_in index) (index_of index spot) id
    ids_renamed = ap flat (runs_with index spot.run new)
        ∙ flat_edit (λ ids i. set ids i id) (λ front rest n i. set-append_right front rest n i id)
        (runs_of index) spot.run spot.at old new there
        (λ rest. set-append_left (ids_of old) rest spot.at id within) ids

    -- it is one over texts that its ids have, as the old ones had theirs
    module _ (have : HaveFirsts (ids_of index.starts) index.later.items) (f g : ℕ → List ℕ)
        (run : StaysOrdered f g old new)
      where
        abbrev Becomes : Run → Type 0
        Becomes starts = IsIndex f index → HaveTexts f g (ids_in index) (ids_in lent)
            → IsIndex g (record lent { starts = starts })

        with_starts : (starts : Run) → IsRenamed f g index.starts starts
            → HaveFirsts (ids_of starts) (drop 1 (set (runs_of index) spot.run new))
            → Becomes starts
        with_starts starts renamed firsts =
            renamed_index f g index (record lent { starts = starts })
            (subst (AreRenamed f g (runs_of index)) (sym (runs_with index spot.run new))
            (one_renamed f g (runs_of index) spot.run old new there
            (rw (ids, length-set) refl, run))) renamed
            (subst (λ rs. HaveFirsts (ids_of starts) (drop 1 rs))
            (sym (runs_with index spot.run new)) firsts)

        -- where the first ids stay
        pub index_renamed : (0 < spot.run → 0 < spot.at) → Becomes lent.starts
        index_renamed past = with_starts lent.starts (rw starts_with (same_run f g index.starts))
            (rw starts_with (other_firsts_set (ids_of index.starts) (runs_of index) spot.run old
            new have there (λ some first here. ap (λ ids. slice_get ids 0) ids
            ∙ first_stays (ids_of old) spot.at id (past some) ∙ here)))

        -- where it is one of the first ids
        pub first_renamed : (starts : Run) → 0 < spot.run → spot.at ≡ 0
            → ids_of starts ≡ set (ids_of lent.starts) (spot.run - 1) id
            → StaysOrdered f g lent.starts starts → Becomes starts
        first_renamed starts past first same ordered =
            let is = starts_with index spot.run new in
            with_starts starts (rw (same, length-set, is) refl, rw is at ordered)
            (rw (same, is) (subst (λ rs. HaveFirsts (set (ids_of index.starts) (spot.run - 1) id)
            (drop 1 rs)) (later_set index.first new index.later.items spot.run past)
            (firsts_renamed (ids_of index.starts) index.later.items (spot.run - 1) id new have
            (ap (λ ids. slice_get ids 0) ids ∙ first_is (ids_of old) spot.at id within first))))
