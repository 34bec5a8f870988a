-- A map from texts, seen as the list of its entries in the order of the keys, and each edit of it.
use Rattle.inline_uses.proofs.Names.{AreInOrder, AreMapped, AreNumbers, Entries, Index, InlinableStringN, IsFound, IsGap, IsIndex, IsStrictlySortedBy, List, None, Some, ap, bytes_at, entries_at, entry_of, fun_ext, get_or, get_or_from_slice_get, ids_in, insert, key_order, keys_of, length, length-map, length-set, map, map-set, map-set_same, option_map, set, slice_get, slice_get-get_or, slice_get-map, slice_get_within, subst, sym, text_at, value_of, with_value, without, ℕ, ◌∙◌, ◌≡◌}
use Rattle.inline_uses.proofs.Search.{none, there}
use Rattle.inline_uses.proofs.Numbered.{count, entry_seen, keys_seen, once, one_differs, other_set, same_entries, seen, this_set}

-- an element that is read is seen as the entry that is there
pub read_entry : {V : Type 0} (items : List (InlinableStringN 30 × V)) (id : ℕ)
    (x : InlinableStringN 30 × V) (e : List ℕ × V) → slice_get (map entry_of items) id ≡ Some e
    → x ≡ get_or items id x → entry_of x ≡ e
read_entry items id x e is read =
    let within = slice_get_within (map entry_of items) id e is in
    let seen : slice_get (map entry_of items) id ≡ Some (entry_of x)
    = slice_get-map entry_of items id ∙ ap (option_map entry_of) (slice_get-get_or items id x
    (rw length-map at within) ∙ ap Some (sym read)) in
    cc

-- an index over the keys of entries gives the entries in the order of the keys
module _ {V : Type 0} (es : Entries V) (index : Index) (are : AreMapped es index) where
  abbrev view : Entries V
  view = entries_at es (ids_in index)

  pub in_order : AreInOrder view
  in_order = subst (IsStrictlySortedBy key_order)
      (sym (keys_seen es (ids_in index) are.0.within)) are.1.sorted

  pub len_seen : length es ≡ length view
  len_seen = sym (count es (ids_in index) are.0.within ∙ are.0.once)

  -- a key that has a number, and a value under it
  pub found_entry : (key : List ℕ) (at id : ℕ)
      → slice_get (map (text_at (keys_of es)) (ids_in index)) at ≡ Some key
      → slice_get (ids_in index) at ≡ Some id → IsFound es index key at id
  found_entry key at id text number =
      let entry = there key view at in_order (rw (keys_seen es (ids_in index) are.0.within) text) in
      record {
        value = entry.0;
        entry = entry_seen es (ids_in index) at id (key, entry.0) are.0.within number entry.1;
        number = number;
        known = entry.2;
        left = entry.3;
        put = entry.4;
      }

  -- a key that has none, and where it goes
  pub missing : (key : List ℕ) (at : ℕ) → IsGap (map (text_at (keys_of es)) (ids_in index)) key at
      → (value_of view key ≡ None) × (without view key ≡ view)
      × ((v : V) → with_value view key v ≡ insert view at (key, v))
  missing key at gap = none key view at (rw (keys_seen es (ids_in index) are.0.within) gap)

pub items_seen : {V : Type 0} (items : List (InlinableStringN 30 × V)) (index : Index)
    → AreMapped (map entry_of items) index
    → length (entries_at (map entry_of items) (ids_in index)) ≡ length items
items_seen items index are =
    sym (len_seen (map entry_of items) index are) ∙ length-map items entry_of

pub ruleset map_known = (in_order, items_seen)

-- the entry of a key is read by its number
module _ {V : Type 0} (items : List (InlinableStringN 30 × V)) {order : Index} {key : List ℕ}
    {at id : ℕ} (found : IsFound (map entry_of items) order key at id)
    {x : InlinableStringN 30 × V} (read : x ≡ get_or items id x)
  where
    abbrev known : Entries V
    known = map entry_of items

    pub value_read : Some x.1 ≡ value_of (entries_at known (ids_in order)) key
    value_read = ap (λ e. Some e.1) (read_entry items id x (key, found.value) found.entry read)
        ∙ sym found.known

    -- and its value is then another
    module _ (are : AreMapped known order) (v : V) where
      abbrev valued : Entries V
      valued = map entry_of (set items id (x.0, v))

      name : bytes_at x.0 ≡ key
      name = ap (λ e. e.0) (read_entry items id x (key, found.value) found.entry read)

      valued_is : valued ≡ set known id (key, v)
      valued_is = map-set entry_of items id (x.0, v) ∙ ap (λ k. set known id (k, v)) name

      same_count : length valued ≡ length known
      same_count = ap length valued_is ∙ length-set known id (key, v)

      same_keys : keys_of valued ≡ keys_of known
      same_keys = ap keys_of valued_is ∙ map-set_same (λ e. e.0) known id (key, v)
          (key, found.value) (sym (ap (λ e. e.0) (get_or_from_slice_get known id
          (key, found.value) (key, found.value) found.entry)))

      pub mapped_valued : AreMapped valued order
      mapped_valued = (
        subst (λ n. AreNumbers n (ids_in order)) (sym same_count) are.0,
        subst (λ keys. IsIndex (text_at keys) order) (sym same_keys) are.1,
      )

      valued_seen : map (slice_get (set known id (key, v))) (ids_in order)
          ≡ set (map (slice_get known) (ids_in order)) at (Some (key, v))
      valued_seen = one_differs (slice_get known) (slice_get (set known id (key, v)))
          (ids_in order) at id found.number
          (once (text_at (keys_of known)) (ids_in order) at id found.number are.1.sorted)
          (λ other not. other_set known id other (key, v) not) ∙ ap (set _ at)
          (this_set known id (key, v) (slice_get_within known id _ found.entry))

      pub entries_valued : entries_at valued (ids_in order)
          ≡ with_value (entries_at known (ids_in order)) key v
      entries_valued = same_entries valued (ids_in order)
          (set (entries_at known (ids_in order)) at (key, v)) mapped_valued.0.within
          (ap (λ es. map (slice_get es) (ids_in order)) valued_is
          ∙ valued_seen
          ∙ ap (λ xs. set xs at (Some (key, v))) (sym (seen known (ids_in order) are.0.within))
          ∙ sym (map-set Some (entries_at known (ids_in order)) at (key, v))) ∙ sym (found.put v)

    -- whatever it is once it was lent
    pub lent : (are : AreMapped known order)
        → (λ (v : V). entries_at (map entry_of (set items id (x.0, v))) (ids_in order))
        ≡ with_value (entries_at known (ids_in order)) key
    lent are = fun_ext (entries_valued are)
