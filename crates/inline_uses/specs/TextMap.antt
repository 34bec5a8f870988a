-- What the contracts of a map from texts cite: its whole state is a list of keys, each as its
-- bytes, with their values, in which each key occurs once, in the order of the keys.
use Rattle.std.specs.Prelude.{◌≡◌, ◌<◌, ◌+◌, ◌-◌, ◌&&◌, ◌⊎◌, not, ℕ, List, [], ◌∷◌, Option, Some, None, map, length, filter, take, drop, set, slice_get}
use Rattle.std.specs.Ordering.{is_gt}
use Rattle.std.specs.List.{AllByRecursion, flat_map, insert, remove, swap_remove}
use Rattle.std.specs.List.Sorted.{IsStrictlySortedBy}
use Rattle.std.specs.Map.{keys_of, lookup, remove_entry}
use Rattle.std.specs.BTreeMap.{is_at, insert_entry}
use Rattle.inline_uses.specs.Index.{IsIndex, IsSpot, ids_in, index_of}
use Rattle.inline_uses.specs.Symbols.{IsGap, bytes_at, key_order, text_at}
use Rattle.inlinable_string.specs.declared.inlinable_string.InlinableStringN.{InlinableStringN}
use Rattle.inline_uses.specs.declared.index.Index.{Index}
use Rattle.inline_uses.specs.declared.index.Spot.{Spot}
use Rattle.std.specs.Borrow.{Bor}
use Rattle.inline_uses.specs.declared.text_map.TextMap.TheInside.{Inside}

-- keys with their values
abbrev pub Entries : Type 0 → Type 0
Entries V = List (List ℕ × V)

-- keys with their values, where these are texts, each as its bytes
abbrev pub texts_of : Entries (InlinableStringN 30) → List (List ℕ × List ℕ)
texts_of entries = map (λ e. (e.0, bytes_at e.1)) entries

-- a number is one of some
abbrev pub Has : List ℕ → ℕ → Type 0
Has [] id = ⊥
Has (known ∷ ids) id = (known ≡ id) ⊎ Has ids id

-- some numbers are all those of a number of entries
pub record AreNumbers (count : ℕ) (ids : List ℕ) : Type 0 where
  pub within : AllByRecursion (λ id. id < count) ids
  pub all : (id : ℕ) → id < count → Has ids id
  pub once : length ids ≡ count

-- some numbers are all those of a number of entries except one
pub record AreOthers (count id : ℕ) (ids : List ℕ) : Type 0 where
  pub within : AllByRecursion (λ other. other < count) ids
  pub apart : AllByRecursion (λ other. ¬ (other ≡ id)) ids
  pub all : (other : ℕ) → other < count → ¬ (other ≡ id) → Has ids other
  pub once : length ids + 1 ≡ count

module _ {V : Type 0} where
  -- each key is below those after it
  abbrev pub AreInOrder : Entries V → Type 0
  AreInOrder entries = IsStrictlySortedBy key_order (keys_of entries)

  -- the value under a key
  abbrev pub value_of : Entries V → List ℕ → Option V
  value_of entries key = lookup (is_at (key_order key)) entries

  -- the entries with a value under a key, instead of the one that it had
  abbrev pub with_value : Entries V → List ℕ → V → Entries V
  with_value entries key value = insert_entry key_order entries key value

  -- the entries without a key
  abbrev pub without : Entries V → List ℕ → Entries V
  without entries key = remove_entry (is_at (key_order key)) entries

  -- the entries whose keys are from one up to and not including another
  abbrev pub entries_between : Entries V → List ℕ → List ℕ → Entries V
  entries_between entries from to = filter
      (λ e. not (is_gt (key_order from e.0)) && is_gt (key_order to e.0)) entries

  -- a key, inline or on the heap, with its value
  abbrev pub entry_of : InlinableStringN 30 × V → List ℕ × V
  entry_of entry = (bytes_at entry.0, entry.1)

  -- the entries with these numbers
  abbrev pub entries_at : Entries V → List ℕ → Entries V
  entries_at entries ids = flat_map (λ id. take 1 (drop id entries)) ids

  -- the entries in the order of an index
  abbrev pub entries_by : Entries V → Index → Entries V
  entries_by entries order = entries_at entries (ids_in order)

  -- the entry of a key has a number, which is at an index among the numbers in order
  pub record IsFound (entries : Entries V) (order : Index) (key : List ℕ) (at id : ℕ)
      : Type 0 where
    pub value : V
    pub entry : slice_get entries id ≡ Some (key, value)
    pub number : slice_get (ids_in order) at ≡ Some id
    pub known : value_of (entries_by entries order) key ≡ Some value
    pub left : without (entries_by entries order) key ≡ remove (entries_by entries order) at
    pub put : (v : V)
        → with_value (entries_by entries order) key v ≡ set (entries_by entries order) at (key, v)

  -- no entry has a key, whose number goes at a spot
  pub record IsMissing (entries : Entries V) (order : Index) (key : List ℕ) (spot : Spot)
      : Type 0 where
    pub within : IsSpot order spot
    pub gap : IsGap (map (text_at (keys_of entries)) (ids_in order)) key (index_of order spot)
    pub none : value_of (entries_by entries order) key ≡ None
    pub put : (v : V) → with_value (entries_by entries order) key v
        ≡ insert (entries_by entries order) (index_of order spot) (key, v)

  -- an index in which the last entry has the number of one that is in it no longer
  pub record IsRenumbered (entries : Entries V) (id : ℕ) (before after : Index) : Type 0 where
    pub numbers : AreNumbers (length entries - 1) (ids_in after)
    pub same : (gone : List ℕ × V) → map (slice_get (swap_remove entries id gone)) (ids_in after)
        ≡ map (slice_get entries) (ids_in before)
    pub index : (gone : List ℕ × V)
        → IsIndex (text_at (keys_of (swap_remove entries id gone))) after

  -- the keys of a map with their values, by their numbers
  abbrev pub by_number : Inside V → Entries V
  by_number a = map entry_of a.entries.items

  -- and in the order of the keys
  abbrev pub entries_of : Inside V → Entries V
  entries_of a = entries_by (by_number a) a.order

  -- each entry has its number in an index, which has them in the order of the keys
  abbrev pub AreMapped : Entries V → Index → Type 0
  AreMapped entries index = AreNumbers (length entries) (ids_in index)
      × IsIndex (text_at (keys_of entries)) index

  abbrev pub IsMapped : Inside V → Type 0
  IsMapped a = AreMapped (by_number a) a.order

  -- the entries from one place of an index up to another
  abbrev pub entries_in : Entries V → Index → Spot → Spot → Entries V
  entries_in entries index from to = take (index_of index to - index_of index from)
      (drop (index_of index from) (entries_at entries (ids_in index)))

  -- a key and a value that are lent
  abbrev pub deref_entry : Bor (InlinableStringN 30) × Bor V → List ℕ × V
  deref_entry entry = (bytes_at entry.0.now, entry.1.now)
