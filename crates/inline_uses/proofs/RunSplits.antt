-- An index in which a run is split.
use Rattle.inline_uses.proofs.Names.{AllByRecursion, AllocError, Err, HaveFirsts, IfOk, Index, IsChanged, IsGap, IsIndex, IsOrdered, IsSplit, IsSpot, IsStrictlySortedBy, List, Ok, OnErr, OnOk, Result, Run, Some, Spot, [], add-one, ap, append_assoc, arith, cases_lt, common_steps, drop, get_or, get_or-map, gets, ids_at, ids_in, ids_of, index_of, inl, inr, insert, key_order, length, length-drop, length-map, length-take-le, map, refl, runs_of, set, slice_get, slice_get-get_or, slice_get_within, subst, suc, sym, take, take-append-drop, zero, ℕ, ◌++◌, ◌+◌, ◌-◌, ◌<◌, ◌∙◌, ◌∷◌, ◌≡◌, ◌≤◌}
use Rattle.inline_uses.proofs.Gaps.{turned}
use Rattle.inline_uses.proofs.InRuns.{IsReplaced, first_at, flat, ids_at_is, in_flat, in_order, later_start, next_start}
use Rattle.inline_uses.proofs.Each.{all_insert, all_set}
use Rattle.inline_uses.proofs.Owned.{have_length}
use Rattle.inline_uses.proofs.RunSets.{IsShort, other_firsts_set, with_same}

-- a run more has its first id among the first ids
firsts_insert : (ids : List ℕ) (runs : List Run) (k first : ℕ) (new : Run) → HaveFirsts ids runs
    → slice_get (ids_of new) 0 ≡ Some first → HaveFirsts (insert ids k first) (insert runs k new)
firsts_insert ids runs zero first new have next = (next, have)
firsts_insert [] [] (suc k) first new have next = (next, tt)
firsts_insert (id ∷ ids) (r ∷ runs) (suc k) first new have next =
    (have.0, firsts_insert ids runs k first new have.1 next)
firsts_insert ids runs (suc k) first new have next = absurd have

first_of_front : (ids : List ℕ) (h : ℕ) → 0 < h → slice_get (take h ids) 0 ≡ slice_get ids 0
first_of_front ids h some = grind (arith, common_steps, gets, some)

first_of_rest : (ids : List ℕ) (h : ℕ) → slice_get (drop h ids) 0 ≡ slice_get ids h
first_of_rest ids h = grind (arith, common_steps, gets)

-- where the first id of the upper part goes among the others
module _ (text_of : ℕ → List ℕ) where
  -- an id of a run that is not its first goes among the first ids where its run is
  start_gap : (x at : ℕ) (ids : List ℕ) (runs : List Run) (k : ℕ) (old : Run)
      → IsStrictlySortedBy key_order (map text_of (flat runs)) → HaveFirsts ids (drop 1 runs)
      → slice_get runs k ≡ Some old → slice_get (ids_of old) at ≡ Some x → 0 < at
      → k ≤ length ids → IsGap (map text_of ids) (text_of x) k
  start_gap x at ids runs k old sorted have is there past most =
      let here = in_flat runs k old at x is there in
      let own = rw (← ids_at_is runs k old is) at (slice_get_within (ids_of old) at x there) in
      let first = λ (i : ℕ) (less : i < length ids).
      (first_at ids runs i (get_or ids i 0) have (slice_get-get_or ids i 0 less)).0 in (
        rw length-map most,
        (λ i less.
            let within : i < length ids = omega (arith, less, most) in
            rw (get_or-map text_of ids i 0 [] within) (turned (text_of (get_or ids i 0)) (text_of x)
            (in_order text_of (flat runs) _ _ (get_or ids i 0) x sorted
            (omega (arith, past, next_start runs i, later_start runs i k less)) (first i within)
            here))),
        λ i le less.
            let within : i < length ids = rw length-map at less in
            rw (get_or-map text_of ids i 0 [] within) (in_order text_of (flat runs) _ _ x
            (get_or ids i 0) sorted
            (omega (arith, own, later_start runs k (suc i) (omega (arith, le)))) here
            (first i within)),
      )

-- the run that a part of a run was taken from, and what it had
module _ {text_of : ℕ → List ℕ} {before after : Index} {at : ℕ} {old lower : Run}
    (to : IsReplaced before after at old lower) (ordered : IsOrdered text_of lower)
  where
    abbrev lower_changed : (ids : List ℕ → List ℕ) → ids_of lower ≡ ids (ids_of old)
        → IsChanged text_of before after at ids
    lower_changed ids changed = record {
      old = old;
      new = lower;
      there = to.there;
      runs = to.runs;
      ordered = ordered;
      changed = changed;
    }

    pub split_made : (kept : ℕ) (r : Result Run AllocError)
        → OnOk r (ids_of lower ≡ take kept (ids_of old))
        → IfOk r (λ upper. ids_of upper ≡ drop kept (ids_of old)) → IfOk r (IsOrdered text_of)
        → IfOk r (IsSplit text_of before after at kept)
    split_made kept (Ok upper) low high is =
        record { lower = lower_changed (take kept) low; ordered = is; rest = high }
    split_made kept (Err e) low high is = tt

    pub split_failed : (r : Result Run AllocError) → OnErr r (ids_of lower ≡ ids_of old)
        → OnErr r (IsChanged text_of before after at (λ ids. ids))
    split_failed (Ok upper) same = tt
    split_failed (Err e) same = lower_changed (λ ids. ids) same

-- an index keeps its runs as it gets room for one more, and its starts as a run is changed then
pub record IsRoomy (text_of : ℕ → List ℕ) (before roomy after : Index) : Type 0 where
  pub index : IsIndex text_of before
  pub runs : runs_of roomy ≡ runs_of before
  pub starts : ids_of after.starts ≡ ids_of before.starts
  pub ordered : IsOrdered text_of after.starts

-- an index has the ids of another, and its spot where the old one was, in one of two parts
pub record IsMoved (text_of : ℕ → List ℕ) (before after : Index) (old new : Spot) : Type 0 where
  pub index : IsIndex text_of after
  pub ids : ids_in after ≡ ids_in before
  pub room : length (ids_at (runs_of after) new.run) < 256
  pub spot : IsSpot after new
  pub at : index_of after new ≡ index_of before old

-- an index with room for a run, in which a run was to be split
module _ {text_of : ℕ → List ℕ} {index roomy parted : Index}
    (ready : IsRoomy text_of index roomy parted)
  where
    replaced : {at : ℕ} {ids : List ℕ → List ℕ} → (to : IsChanged text_of roomy parted at ids)
        → IsReplaced index parted at to.old to.new
    replaced {at} to = record {
      there = subst (λ rs. slice_get rs at ≡ Some to.old) ready.runs to.there;
      runs = subst (λ rs. runs_of parted ≡ set rs at to.new) ready.runs to.runs;
    }

    -- it has the ids that it had, if it was not
    pub unsplit : {at : ℕ} → IsChanged text_of roomy parted at (λ ids. ids)
        → IsIndex text_of parted × (ids_in parted ≡ ids_in index)
    unsplit {at} to = with_same text_of index parted at to.old to.new ready.index
        (replaced to).there (replaced to).runs ready.starts ready.ordered to.ordered to.changed

    module _ {spot : Spot} {kept : ℕ} {upper : Run} (some : 0 < kept) (less : kept < 256)
        (full : length (ids_at (runs_of index) spot.run) ≡ 256) (spot_is : IsSpot index spot)
        (split : IsSplit text_of roomy parted spot.run kept upper)
      where
        abbrev old : Run
        old = split.lower.old

        abbrev lower : Run
        lower = split.lower.new

        to : IsReplaced index parted spot.run old lower
        to = replaced split.lower

        count : length (ids_of old) ≡ 256
        count = rw (ids_at_is (runs_of index) spot.run old to.there) at full

        lower_count : length (ids_of lower) ≡ kept
        lower_count = ap length split.lower.changed
            ∙ length-take-le kept (ids_of old) (omega (arith, count, less))

        upper_count : length (ids_of upper) ≡ 256 - kept
        upper_count = rw (split.rest, length-drop) (omega (arith, count))

        -- the upper part has a first id, whose text goes among those of the others
        pub upper_some : 0 < length (ids_of upper)
        upper_some = omega (arith, upper_count, less)

        pub upper_gap : {first : ℕ} → slice_get (ids_of upper) 0 ≡ Some first
            → IsGap (map text_of (ids_of parted.starts)) (text_of first) spot.run
        upper_gap {first} next = rw ready.starts
            (start_gap text_of first kept (ids_of index.starts) (runs_of index) spot.run old
            ready.index.sorted ready.index.firsts to.there
            (sym (first_of_rest (ids_of old) kept) ∙ rw split.rest at next) some
            (rw (have_length (ids_of index.starts) index.later.items ready.index.firsts)
            spot_is.run))

        firsts_stay : HaveFirsts (ids_of parted.starts) parted.later.items
        firsts_stay = subst (λ ids. HaveFirsts ids parted.later.items) (sym ready.starts)
            (subst (λ rs. HaveFirsts (ids_of index.starts) (drop 1 rs)) (sym to.runs)
            (other_firsts_set (ids_of index.starts) (runs_of index) spot.run old lower
            ready.index.firsts to.there (λ past id here. ap (λ ids. slice_get ids 0)
            split.lower.changed ∙ first_of_front (ids_of old) kept some ∙ here)))

        -- runs, of which the one at k was split
        abbrev Parts : List Run → ℕ → List Run → Type 0
        Parts runs k rs = (flat rs ≡ flat runs) × (take k rs ≡ take k runs)
            × (ids_at rs k ≡ ids_of lower) × (ids_at rs (suc k) ≡ ids_of upper)
            × (length rs ≡ suc (length runs))

        parts_are : (runs : List Run) (k : ℕ) → slice_get runs k ≡ Some old
            → Parts runs k (insert (set runs k lower) (suc k) upper)
        parts_are [] k is = cc
        parts_are (r ∷ runs) zero is =
            let same : r ≡ old = cc in
            let whole : ids_of lower ++ ids_of upper ≡ ids_of r
            = rw (split.lower.changed, split.rest, same) (take-append-drop kept (ids_of old)) in (
              sym (append_assoc (ids_of lower) (ids_of upper) (flat runs))
                  ∙ ap (λ ids. ids ++ flat runs) whole,
              refl,
              refl,
              refl,
              refl,
            )
        parts_are (r ∷ runs) (suc k) is =
            let rest = parts_are runs k is in (
              ap (λ ids. ids_of r ++ ids) rest.0,
              ap (λ rs. r ∷ rs) rest.1,
              rest.2,
              rest.3,
              ap suc rest.4,
            )

        -- with the upper part as a run, the spot is in one of the parts
        module _ (after : Index) (moved : Spot) (first : ℕ)
            (same : after.first ≡ parted.first)
            (more : after.later.items ≡ insert parted.later.items spot.run upper)
            (ids : ids_of after.starts ≡ insert (ids_of parted.starts) spot.run first)
            (ordered : IsOrdered text_of after.starts)
            (next : slice_get (ids_of upper) 0 ≡ Some first) (stays : spot.at ≤ kept → moved ≡ spot)
            (moves : kept < spot.at → (moved.run ≡ spot.run + 1) × (moved.at + kept ≡ spot.at))
          where
            all : runs_of after ≡ insert (set (runs_of index) spot.run lower) (suc spot.run) upper
            all = rw (same, more) (ap (λ rs. insert rs (suc spot.run) upper) to.runs)

            parts : Parts (runs_of index) spot.run (runs_of after)
            parts = subst (Parts (runs_of index) spot.run) (sym all)
                (parts_are (runs_of index) spot.run to.there)

            each : (P : Run → Type 0) → AllByRecursion P (runs_of index) → P lower → P upper
                → AllByRecursion P (runs_of after)
            each P is low high = subst (AllByRecursion P) (sym all)
                (all_insert P (suc spot.run) (set (runs_of index) spot.run lower) upper
                (all_set P (runs_of index) spot.run lower is low) high)

            part_moved : (length (ids_at (runs_of after) moved.run) < 256)
                × IsSpot after moved × (index_of after moved ≡ index_of index spot)
            part_moved =
                let within = slice_get_within (runs_of index) spot.run old to.there in
                elim (cases_lt kept spot.at) [
                  | inl past ↦
                      let by = moves past in
                      let run = by.0 ∙ add-one spot.run in
                      let part : length (ids_at (runs_of after) moved.run) ≡ 256 - kept
                      = rw (run, parts.3) upper_count in
                      let start = rw (parts.1, parts.2) at (next_start (runs_of after) spot.run)
                      in (
                        omega (arith, part, some),
                        record {
                          run = omega (arith, within, run, parts.4);
                          within = rw part (omega (arith, by.1, spot_is.within, full));
                          after = λ later. omega (arith, past, by.1);
                        },
                        rw run (omega (arith, by.1, start, lower_count)),
                      )
                  | inr le ↦
                      let part : length (ids_at (runs_of after) spot.run) ≡ kept
                      = rw parts.2 lower_count in
                      rw (stays le) (
                        omega (arith, part, less),
                        record {
                          run = omega (arith, within, parts.4);
                          within = rw part le;
                          after = spot_is.after;
                        },
                        rw parts.1 refl,
                      )
                ]

            pub spot_moved : IsMoved text_of index after spot moved
            spot_moved = record {
              index = record {
                sorted = subst (λ ids. IsStrictlySortedBy key_order (map text_of ids))
                    (sym parts.0) ready.index.sorted;
                runs = each (IsOrdered text_of) ready.index.runs split.lower.ordered split.ordered;
                short = each IsShort ready.index.short (omega (arith, lower_count, less))
                    (omega (arith, upper_count));
                starts = ordered;
                firsts = rw (ids, more) (firsts_insert (ids_of parted.starts) parted.later.items
                    spot.run first upper firsts_stay next);
              };
              ids = parts.0;
              room = part_moved.0;
              spot = part_moved.1;
              at = part_moved.2;
            }
