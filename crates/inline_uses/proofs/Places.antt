-- Places among the ids of an index, and the entries between two of them.
use Rattle.std.proofs.lemmas.List.Edits.{between_more}
use Rattle.inline_uses.proofs.Names.{AreMapped, AreNumbers, Entries, HaveFirsts, Index, InlinableStringN, IsAt, IsPlace, List, Run, Some, Spot, [], add-one, ap, arith, drop, drop-cons, entries_at, entries_between, entries_in, entry_of, false, get_or, get_or_from_slice_get, ids_at, ids_in, ids_of, index_of, inl, inr, is_gt, key_order, keys_of, length, map, not, refl, runs_of, slice_get, slice_get-get_or, slice_get_within, suc, sym, take, take_all, text_at, true, zero, ℕ, ◌&&◌, ◌++◌, ◌+◌, ◌-◌, ◌<◌, ◌∙◌, ◌∷◌, ◌≡◌, ◌≤◌, ◌⊎◌}
use Rattle.inline_uses.proofs.InRuns.{flat, later_start, next_start}
use Rattle.inline_uses.proofs.Mapped.{read_entry}
use Rattle.inline_uses.proofs.Numbered.{count, entry_seen, keys_seen}
use Rattle.inline_uses.proofs.Search.{run}

-- a later run has an id
has_first : (ids : List ℕ) (runs : List Run) (k : ℕ) → HaveFirsts ids runs → k < length runs
    → 0 < length (ids_at runs k)
has_first ids [] k have less = absurd (omega (arith, less))
has_first (id ∷ ids) (run ∷ runs) zero have less = slice_get_within (ids_of run) 0 id have.0
has_first (id ∷ ids) (run ∷ runs) (suc k) have less =
    has_first ids runs k have.1 (omega (arith, less))
has_first ids runs k have less = absurd have

module _ (index : Index) where
  abbrev runs : List Run
  runs = runs_of index

  all_taken : length (flat (take (length runs) runs)) ≡ length (ids_in index)
  all_taken = ap (λ runs. length (flat runs)) (take_all (length runs) runs (omega arith))

  -- a place is after no more ids than there are
  pub within_all : (a : Spot) → IsPlace index a → index_of index a ≤ length (ids_in index)
  within_all a place =
      let end = later_start runs a.run (length runs) (omega (arith, place.run)) in
      omega (arith, place.within, all_taken, end)

  pub has_some : (k : ℕ) → HaveFirsts (ids_of index.starts) index.later.items
      → k ≤ length index.later.items → 0 < k → 0 < length (ids_at runs k)
  has_some zero have within later = absurd (omega (arith, later))
  has_some (suc k) have within later =
      has_first (ids_of index.starts) index.later.items k have within

  -- places are in the order of their runs, and in one run of their indices there
  pub is_before : (a b : Spot) → IsAt index a
      → (a.run < b.run) ⊎ (b.run ≤ a.run × (a.run ≡ b.run) × (a.at < b.at))
      → index_of index a < index_of index b
  is_before a b is (inl later) = omega (arith, is.within, later_start runs a.run b.run later)
  is_before a b is (inr same) = rw same.1 (omega (arith, same.2))

  pub not_before : (a b : Spot) → IsPlace index b
      → ((b.run ≤ a.run) × (a.run ≡ b.run) × (b.at ≤ a.at)) ⊎ ((b.run ≤ a.run) × ¬ (a.run ≡ b.run))
      → index_of index b ≤ index_of index a
  not_before a b place (inl same) = rw same.1 (omega (arith, same.2))
  not_before a b place (inr earlier) = omega (
    arith,
    place.within,
    later_start runs b.run a.run (grind (arith, earlier.0, earlier.1)),
  )

-- where a run starts, and where the last one ends
module _ (index : Index) (k : ℕ) where
  pub next_place : length (flat (take (k + 1) (runs_of index)))
      ≡ length (flat (take k (runs_of index))) + length (ids_at (runs_of index) k)
  next_place = rw add-one (next_start (runs_of index) k)

  pub place_before : 0 < k → length (flat (take k (runs_of index)))
      ≡ length (flat (take (k - 1) (runs_of index))) + length (ids_at (runs_of index) (k - 1))
  place_before past =
      let next : k ≡ suc (k - 1) = omega (arith, past) in
      ap (λ k. length (flat (take k (runs_of index)))) next ∙ next_start (runs_of index) (k - 1)

  pub last_place : k ≡ length index.later.items
      → length (flat (take k (runs_of index))) + length (ids_at (runs_of index) k)
      ≡ length (ids_in index)
  last_place last = rw last (sym (next_start (runs_of index) (length index.later.items))
      ∙ all_taken index)

pub ruleset places_known =
    (has_some, is_before, last_place, next_place, not_before, place_before, within_all)

-- what is between two indices of a list begins with what is at the first
first_between : {X : Type 0} (xs : List X) (i j : ℕ) (x : X) → i < j → slice_get xs i ≡ Some x
    → take (j - i) (drop i xs) ≡ x ∷ take (j - (i + 1)) (drop (i + 1) xs)
first_between xs i j x less is =
    let next : i + 1 ≡ suc i = omega arith in
    let left : j - i ≡ suc (j - suc i) = omega (arith, less) in
    rw (next, left, drop-cons xs i x (slice_get_within xs i x is))
    (ap (λ x. x ∷ take (j - suc i) (drop (suc i) xs)) (get_or_from_slice_get xs i x x is))

-- and ends with what is before the second
last_between : {X : Type 0} (xs : List X) (i j : ℕ) (x : X) → i ≤ j → slice_get xs j ≡ Some x
    → take (j + 1 - i) (drop i xs) ≡ take (j - i) (drop i xs) ++ x ∷ []
last_between xs i j x within is =
    rw (get_or_from_slice_get xs j x x is)
    at (between_more xs i j x within (slice_get_within xs j x is))

-- entries by their numbers, which an index has in the order of the keys
module _ {V : Type 0} (es : Entries V) (index : Index) (are : AreMapped es index)
  where
    abbrev view : Entries V
    view = entries_at es (ids_in index)

    -- from the first place to the last all are
    pub all_between : (from to : Spot) → index_of index from ≡ 0
        → index_of index to ≡ length (ids_in index) → entries_in es index from to ≡ view
    all_between from to none all =
        rw (none, all, ← count es (ids_in index) are.0.within) (take_all _ view (omega arith))

    -- those before a place are below a key, and the others are not
    pub record IsFrom (key : List ℕ) (place : Spot) : Type 0 where
      pub below : (i : ℕ) → i < index_of index place → is_gt (key_order key
          (get_or (map (text_at (keys_of es)) (ids_in index)) i [])) ≡ true
      pub above : (i : ℕ) → index_of index place ≤ i → i < length (ids_in index)
          → is_gt (key_order key (get_or (map (text_at (keys_of es)) (ids_in index)) i [])) ≡ false

    -- from the place of one key to that of another those between these are
    pub between : (low high : List ℕ) (from to : Spot) → IsFrom low from → IsFrom high to
        → entries_in es index from to ≡ entries_between view low high
    between low high from to start end =
        let keys = keys_seen es (ids_in index) are.0.within in
        let size = count es (ids_in index) are.0.within in
        let first = index_of index from in
        let last = index_of index to in
        sym (run (λ k. not (is_gt (key_order low k)) && is_gt (key_order high k)) view first
        (last - first) (λ k l b. rw (keys, start.below k l) refl)
        (λ k l m b. let within : k < length (ids_in index) = omega (arith, size) in
        rw (keys, start.above k l within, end.below k (omega arith)) refl) (λ k l b. rw (
          keys,
          start.above k (omega arith) (omega (arith, size)),
          end.above k (omega arith) (omega (arith, size)),
        ) refl))

-- an entry, and the index of its number among those of an index
module _ {V : Type 0} (items : List (InlinableStringN 30 × V)) (x : InlinableStringN 30 × V)
    (id : ℕ) (index : Index) (spot : Spot)
    (numbers : AreNumbers (length (map entry_of items)) (ids_in index))
    (is : slice_get (ids_in index) (index_of index spot) ≡ Some id) (read : x ≡ get_or items id x)
  where
    abbrev all : Entries V
    all = entries_at (map entry_of items) (ids_in index)

    there : slice_get all (index_of index spot) ≡ Some (entry_of x)
    there =
        let es = map entry_of items in
        let at = index_of index spot in
        let e = get_or all at (entry_of x) in
        let within = slice_get_within (ids_in index) at id is in
        let size = count es (ids_in index) numbers.within in
        let here = slice_get-get_or all at (entry_of x) (omega (arith, within, size)) in
        let entry = entry_seen es (ids_in index) at id e numbers.within is here in
        here ∙ ap Some (sym (read_entry items id x e entry read))

    -- it comes first, and then those from the place after it
    pub next_entry : (from next to : Spot) → index_of index spot ≡ index_of index from
        → index_of index spot < index_of index to → index_of index next ≡ index_of index spot + 1
        → entries_in (map entry_of items) index from to
        ≡ entry_of x ∷ entries_in (map entry_of items) index next to
    next_entry from next to same less after = rw (← same, after)
        (first_between all (index_of index spot) (index_of index to) (entry_of x) less there)

    -- it comes last, after those up to its place
    pub last_entry : (from to : Spot) → index_of index spot + 1 ≡ index_of index to
        → index_of index from ≤ index_of index spot → entries_in (map entry_of items) index from to
        ≡ entries_in (map entry_of items) index from spot ++ entry_of x ∷ []
    last_entry from to same within = rw (← same)
        (last_between all (index_of index from) (index_of index spot) (entry_of x) within there)
