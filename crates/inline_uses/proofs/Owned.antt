-- The runs of an index, as code reads and changes them.
use Rattle.inline_uses.proofs.Names.{AllByRecursion, HaveFirsts, Index, List, None, Option, Run, Some, [], ap, append-nil, append_assoc, arith, drop-map, flat_map_more, ids_at, ids_of, length, map-set, map_more, refl, runs_of, slice_get, suc, take-map, take_all, take_more, with_run, zero, ℕ, ◌<◌, ◌∷◌, ◌≡◌, ◌≤◌}
use Rattle.inline_uses.proofs.Search.{inserted_seen, removed_seen}

abbrev pub ids_got : Option Run → List ℕ
ids_got None = []
ids_got (Some run) = ids_of run

pub ids_at_got : (runs : List Run) (k : ℕ) → ids_at runs k ≡ ids_got (slice_get runs k)
ids_at_got [] k = refl
ids_at_got (r ∷ runs) zero = refl
ids_at_got (r ∷ runs) (suc k) = ids_at_got runs k

pub own_ids : (index : Index) (k : ℕ)
    → ids_at (runs_of index) k ≡ ids_got (slice_get (runs_of index) k)
own_ids index k = ids_at_got (runs_of index) k

pub have_length : (ids : List ℕ) (runs : List Run) → HaveFirsts ids runs → length ids ≡ length runs
have_length [] [] have = refl
have_length (id ∷ ids) (run ∷ runs) have = ap suc (have_length ids runs have.1)
have_length ids runs have = absurd have

pub starts_count : (index : Index) → HaveFirsts (ids_of index.starts) index.later.items
    → length (ids_of index.starts) ≡ length index.later.items
starts_count index have = have_length (ids_of index.starts) index.later.items have

-- a run that has ids is there
pub run_there : (runs : List Run) (k : ℕ) → 0 < length (ids_at runs k) → k < length runs
run_there [] k some = absurd (omega (arith, some))
run_there (r ∷ runs) zero some = omega arith
run_there (r ∷ runs) (suc k) some = omega (arith, run_there runs k some)

pub starts_with : (index : Index) (k : ℕ) (run : Run) → (with_run index k run).starts ≡ index.starts
starts_with index zero run = refl
starts_with index (suc k) run = refl

short_at : (runs : List Run) (k : ℕ) → AllByRecursion (λ run. length (ids_of run) ≤ 256) runs
    → length (ids_at runs k) ≤ 256
short_at [] k short = omega arith
short_at (r ∷ runs) zero short = short.0
short_at (r ∷ runs) (suc k) short = short_at runs k short.1

pub short_run : (index : Index) (k : ℕ)
    → AllByRecursion (λ run. length (ids_of run) ≤ 256) (runs_of index)
    → length (ids_at (runs_of index) k) ≤ 256
short_run index k short = short_at (runs_of index) k short

-- what the check is to know of the runs of an index
pub ruleset runs_known = (own_ids, run_there, short_run, starts_count, starts_with)

-- and of the ids of marks
pub ruleset marks_known = (drop-map, inserted_seen, map-set, removed_seen, take-map)

pub ruleset appended = (append-nil, append_assoc, flat_map_more, map_more, take_all, take_more)
