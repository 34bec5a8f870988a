-- An index: ids in the order of their texts, in runs, each id beside a part of its text.
use Rattle.std.specs.Prelude.{◌≡◌, ◌<◌, ◌≤◌, ◌+◌, ℕ, zero, suc, min, true, List, [], ◌∷◌, map, length, take, drop, set, slice_get, Some, ⊤}
use Rattle.std.specs.Borrow.{Fml, Lends, MutBor}
use Rattle.std.specs.Vec.{with_item}
use Rattle.std.specs.declared.cmp.Ordering.{Ordering}
use Rattle.std.specs.declared.cmp.Ordering.TheVariants.{Less, Equal, Greater}
use Rattle.std.specs.Cmp.Lexicographic.{slice_cmp}
use Rattle.std.specs.Int.{from_be_bytes, is_power_of_two, w64}
use Rattle.std.specs.List.{AllByRecursion, flat_map}
use Rattle.std.specs.List.Sorted.{IsStrictlySortedBy}
use Rattle.std.specs.Ordering.{match_ordering, nat_cmp}
use Rattle.inline_uses.specs.declared.index.Index.{Index}
use Rattle.inline_uses.specs.declared.index.Spot.{Spot}
use Rattle.inline_uses.specs.declared.index.mark.Mark.{Mark}
use Rattle.inline_uses.specs.declared.index.run.Run.{Run}
use Rattle.inline_uses.specs.contracts.index.Index.{the_row as index_row}
use Rattle.inline_uses.specs.contracts.index.run.Run.{the_row as run_row}

-- how the text of a mark compares to a text with these bits: by the bits, and if they are equal by
-- the texts
abbrev pub mark_order : (ℕ → List ℕ) → ℕ → List ℕ → Mark → Ordering
mark_order text_of bits text mark =
    match_ordering (nat_cmp mark.bits bits) Less (slice_cmp nat_cmp (text_of mark.id) text) Greater

abbrev pub ids_of : Run → List ℕ
ids_of run = map (λ mark. mark.id) run.marks.items

-- the front of the first of some texts
abbrev pub first_front : ℕ → List (List ℕ) → List ℕ
first_front len [] = []
first_front len (text ∷ texts) = take len text

-- how the front of the first of some texts compares to that of another text
abbrev pub compare_fronts : ℕ → List (List ℕ) → List ℕ → Ordering
compare_fronts len [] text = Equal
compare_fronts len (known ∷ _) text = slice_cmp nat_cmp (take len known) (take len text)

-- a text begins as the first of others, if there is one
abbrev pub IsShared : ℕ → List ℕ → List (List ℕ) → Type 0
IsShared len text [] = ⊤
IsShared len text (known ∷ _) = take len known ≡ take len text

-- how many first bytes two texts have in common
abbrev pub common : List ℕ → List ℕ → ℕ
common [] ys = 0
common (x ∷ xs) [] = 0
common (x ∷ xs) (y ∷ ys) = match_ordering (nat_cmp x y) 0 (suc (common xs ys)) 0

-- the last of some ids, of which the first is known
abbrev pub last_of : ℕ → List ℕ → ℕ
last_of id [] = id
last_of id (next ∷ ids) = last_of next ids

-- how many first bytes the first and the last of some texts have in common, of 256 at most
abbrev pub longest_front : (ℕ → List ℕ) → List ℕ → ℕ
longest_front text_of [] = 0
longest_front text_of (id ∷ ids) = min 256 (common (text_of id) (text_of (last_of id ids)))

-- with this number of ids the front is made as long as the texts allow
abbrev pub Lengthens : ℕ → Type 0
Lengthens count = (4 ≤ count) × (is_power_of_two count ≡ true)

-- a mark has the bytes of its text after a front of it
pub record IsMark (text_of : ℕ → List ℕ) (len : ℕ) (front : List ℕ) (mark : Mark) : Type 0 where
  pub begins : take len (text_of mark.id) ≡ front
  pub bits : mark.bits ≡ from_be_bytes w64 (drop len (text_of mark.id))
  pub bytes : AllByRecursion (λ b. b < 256) (text_of mark.id)

-- ids are in the order of their texts, which begin with the same bytes
pub record IsOrdered (text_of : ℕ → List ℕ) (run : Run) : Type 0 where
  pub sorted : IsStrictlySortedBy (slice_cmp nat_cmp) (map text_of (ids_of run))
  pub marks : AllByRecursion
      (IsMark text_of run.front (first_front run.front (map text_of (ids_of run)))) run.marks.items

-- the runs, the first one before the others
abbrev pub runs_of : Index → List Run
runs_of index = index.first ∷ index.later.items

-- the ids of all runs
abbrev pub ids_in : Index → List ℕ
ids_in index = flat_map ids_of (runs_of index)

-- each id is the first one of its run
abbrev pub HaveFirsts : List ℕ → List Run → Type 0
HaveFirsts [] [] = ⊤
HaveFirsts (id ∷ ids) (run ∷ runs) = (slice_get (ids_of run) 0 ≡ Some id) × HaveFirsts ids runs
HaveFirsts _ _ = ⊥

-- the ids are in the order of their texts, each run has at most 256, and the first ids of the runs
-- after the first run are known
pub record IsIndex (text_of : ℕ → List ℕ) (index : Index) : Type 0 where
  pub sorted : IsStrictlySortedBy (slice_cmp nat_cmp) (map text_of (ids_in index))
  pub runs : AllByRecursion (IsOrdered text_of) (runs_of index)
  pub short : AllByRecursion (λ run. length (ids_of run) ≤ 256) (runs_of index)
  pub starts : IsOrdered text_of index.starts
  pub firsts : HaveFirsts (ids_of index.starts) index.later.items

-- the ids of the run at an index
abbrev pub ids_at : List Run → ℕ → List ℕ
ids_at [] i = []
ids_at (run ∷ runs) zero = ids_of run
ids_at (run ∷ runs) (suc i) = ids_at runs i

-- the index of a spot among all ids
abbrev pub index_of : Index → Spot → ℕ
index_of index spot = length (flat_map ids_of (take spot.run (runs_of index))) + spot.at

-- a spot is in a run, and before the first id of no run except the first
pub record IsSpot (index : Index) (spot : Spot) : Type 0 where
  pub run : spot.run ≤ length index.later.items
  pub within : spot.at ≤ length (ids_at (runs_of index) spot.run)
  pub after : 0 < spot.run → 0 < spot.at

-- an id is at a spot
pub record IsAt (index : Index) (spot : Spot) : Type 0 where
  pub run : spot.run ≤ length index.later.items
  pub within : spot.at < length (ids_at (runs_of index) spot.run)

-- a place is in a run, before an id or after the last one
pub record IsPlace (index : Index) (spot : Spot) : Type 0 where
  pub run : spot.run ≤ length index.later.items
  pub within : spot.at ≤ length (ids_at (runs_of index) spot.run)

-- of the runs of an index one is another, and has these ids in place of its own
pub record IsChanged (text_of : ℕ → List ℕ) (before after : Index) (at : ℕ)
    (ids : List ℕ → List ℕ) : Type 0 where
  pub old : Run
  pub new : Run
  pub there : slice_get (runs_of before) at ≡ Some old
  pub runs : runs_of after ≡ set (runs_of before) at new
  pub ordered : IsOrdered text_of new
  pub changed : ids_of new ≡ ids (ids_of old)

-- a run keeps its first ids, and the others are a run of their own
pub record IsSplit (text_of : ℕ → List ℕ) (before after : Index) (at kept : ℕ) (upper : Run)
    : Type 0 where
  pub lower : IsChanged text_of before after at (take kept)
  pub ordered : IsOrdered text_of upper
  pub rest : ids_of upper ≡ drop kept (ids_of lower.old)

-- an index with another run instead of one
abbrev pub with_run : Index → ℕ → Run → Index
with_run index zero run = record index { first = run }
with_run index (suc k) run = record index { later = with_item index.later k run }

-- an index ends with what is left of a run in its place
abbrev pub LendsRun : MutBor Index → ℕ → MutBor Run → Fml
LendsRun index at run = Lends index_row run_row index run (with_run index.now at)
