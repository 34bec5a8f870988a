-- An index in which a run gets the ids of the next one, which is gone.
use Rattle.inline_uses.proofs.Names.{Global, Index, IsIndex, IsOrdered, IsStrictlySortedBy, List, Run, Some, Vec, [], ap, append_assoc, get_or, ids_at, ids_of, insert, key_order, length, length-append, map, map-append, refl, remove, runs_of, set, slice_get, slice_get_read, suc, sym, with_run, zero, ℕ, ◌++◌, ◌+◌, ◌<◌, ◌∙◌, ◌∷◌, ◌≡◌, ◌≤◌}
use Rattle.inline_uses.proofs.InRuns.{flat, ids_at_is, sorted_rest}
use Rattle.inline_uses.proofs.RunEdits.{sorted_parts}
use Rattle.inline_uses.proofs.RunRemovals.{have_removed}
use Rattle.inline_uses.proofs.RunSets.{IsShort, index_of_runs, other_firsts_set}
use Rattle.inline_uses.proofs.Spots.{runs_with}
use Rattle.inline_uses.proofs.Each.{all_remove, all_set}
use Rattle.inline_uses.proofs.Tables.{before_append}

-- a run is there without the next one
pub there_still : (r : Run) (later : List Run) (k : ℕ)
    → slice_get (r ∷ remove later k) k ≡ slice_get (r ∷ later) k
there_still r later zero = refl
there_still r [] (suc k) = refl
there_still r (next ∷ later) (suc k) = there_still next later k

pub were_there : (before : Index) (rest : List Run) (k : ℕ) (old next : Run)
    → k < length before.later.items → rest ≡ remove before.later.items k
    → next ≡ get_or before.later.items k next → slice_get (before.first ∷ rest) k ≡ Some old
    → (slice_get (runs_of before) k ≡ Some old) × (slice_get before.later.items k ≡ Some next)
were_there before rest k old next within gone then is = (
  sym (there_still before.first before.later.items k)
      ∙ ap (λ rs. slice_get (before.first ∷ rs) k) (sym gone) ∙ is,
  slice_get_read before.later.items (length before.later.items) k next refl within then,
)

-- what is lent is put among the others
pub lent_among : (before : Index) (rest : Vec Run Global) (k : ℕ) (new : Run)
    → rest.items ≡ remove before.later.items k
    → runs_of (with_run (record before { later = rest }) k new)
    ≡ set (before.first ∷ remove before.later.items k) k new
lent_among before rest k new gone = runs_with (record before { later = rest }) k new
    ∙ ap (λ rs. set (before.first ∷ rs) k new) gone

-- a run, and the next one
module _ (old next : Run) where
  -- their ids are in order
  pub both_in_order : (text_of : ℕ → List ℕ) (r : Run) (later : List Run) (k : ℕ)
      → slice_get (r ∷ later) k ≡ Some old → slice_get later k ≡ Some next
      → IsStrictlySortedBy key_order (map text_of (flat (r ∷ later)))
      → IsStrictlySortedBy key_order (map text_of (ids_of old ++ ids_of next))
  both_in_order text_of r [] k is then sorted = cc
  both_in_order text_of r (n ∷ later) zero is then sorted =
      let same : r ≡ old = cc in
      let other : n ≡ next = cc in
      rw (← same, ← other) (sorted_parts (map text_of (ids_of r ++ ids_of n))
      (map text_of (flat later)) (rw (← map-append, append_assoc) sorted)).0
  both_in_order text_of r (n ∷ later) (suc k) is then sorted =
      both_in_order text_of n later k is then
      (sorted_rest text_of (ids_of r) (flat (n ∷ later)) sorted)

  module _ (new : Run) where
    -- with another run and the next one in their places the runs are those with that one alone
    pub put_back : (r : Run) (later : List Run) (k : ℕ) → slice_get later k ≡ Some next
        → insert (set (r ∷ remove later k) k new) (suc k) next ≡ set (r ∷ later) k new
    put_back r [] k then = cc
    put_back r (n ∷ later) zero then =
        let other : n ≡ next = cc in
        ap (λ n. new ∷ n ∷ later) (sym other)
    put_back r (n ∷ later) (suc k) then = ap (λ rs. r ∷ rs) (put_back n later k then)

    -- with the ids of both instead of both all are the same
    flat_joined : (r : Run) (later : List Run) (k : ℕ) → slice_get (r ∷ later) k ≡ Some old
        → slice_get later k ≡ Some next → ids_of new ≡ ids_of old ++ ids_of next
        → flat (set (r ∷ remove later k) k new) ≡ flat (r ∷ later)
    flat_joined r [] k is then both = cc
    flat_joined r (n ∷ later) zero is then both =
        let same : r ≡ old = cc in
        let other : n ≡ next = cc in
        rw (same, other, both) (append_assoc (ids_of old) (ids_of next) (flat later))
    flat_joined r (n ∷ later) (suc k) is then both =
        ap (λ ids. ids_of r ++ ids) (flat_joined n later k is then both)

    pub joined : (text_of : ℕ → List ℕ) (before after : Index) (at : ℕ) → IsIndex text_of before
        → slice_get (runs_of before) at ≡ Some old → slice_get before.later.items at ≡ Some next
        → ids_of new ≡ ids_of old ++ ids_of next → IsOrdered text_of new
        → length (ids_at (runs_of before) at) + length (ids_at before.later.items at) ≤ 256
        → runs_of after ≡ set (before.first ∷ remove before.later.items at) at new
        → ids_of after.starts ≡ remove (ids_of before.starts) at → IsOrdered text_of after.starts
        → IsIndex text_of after × (flat (runs_of after) ≡ flat (runs_of before))
    joined text_of before after at is there then both ordered few runs firsts starts =
        let later = before.later.items in
        let short : length (ids_of new) ≤ 256 = rw (
          both,
          length-append,
          ← ids_at_is (runs_of before) at old there,
          ← ids_at_is later at next then,
        ) few in
        index_of_runs text_of after (set (before.first ∷ remove later at) at new)
        (flat (runs_of before)) runs (flat_joined before.first later at there then both) is.sorted
        (all_set (IsOrdered text_of) (before.first ∷ remove later at) at new
        (all_remove (IsOrdered text_of) (suc at) (runs_of before) is.runs) ordered)
        (all_set IsShort (before.first ∷ remove later at) at new
        (all_remove IsShort (suc at) (runs_of before) is.short) short) starts
        (rw firsts (other_firsts_set (remove (ids_of before.starts) at)
        (before.first ∷ remove later at) at old new
        (have_removed (ids_of before.starts) later at is.firsts)
        (there_still before.first later at ∙ there) (λ past id here. ap (λ ids. slice_get ids 0)
        both ∙ before_append (ids_of old) (ids_of next) 0 id here)))
