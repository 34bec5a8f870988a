-- A map with a new key, whose entry is the last one, and whose number goes where the key does.
use Rattle.inline_uses.proofs.Names.{AllByRecursion, AreMapped, AreNumbers, Entries, Equal, Greater, Index, InlinableStringN, IsFound, IsGap, IsIndex, IsMissing, Less, List, Ordering, Some, Spot, [], ap, arith, bytes_at, entries_at, entries_by, entry_of, fun_ext, get_or, get_or_from_slice_get, ids_in, index_of, insert, key_order, keys_of, length, length-append, length-map, map, map-append, match_ordering, nat_list_cmp_total, option_map, refl, set, slice_get, slice_get-map, slice_get_within, subst, suc, swap_remove, sym, take, take-append_seam, take-set, text_at, tied_itself, with_value, ℕ, ◌++◌, ◌-◌, ◌<◌, ◌∙◌, ◌∷◌, ◌≡◌}
use Rattle.inline_uses.proofs.Ids.{gap_with, index_with, index_without}
use Rattle.inline_uses.proofs.Mapped.{found_entry, lent, mapped_valued, read_entry}
use Rattle.inline_uses.proofs.Tables.{at_push}
use Rattle.inline_uses.proofs.Numbered.{numbers_with, place_of, same_entries, with_entry}

-- a list whose new last element goes again
pub last_swapped : {X : Type 0} (xs : List X) (x d : X)
    → swap_remove (xs ++ x ∷ []) (length xs) d ≡ xs
last_swapped xs x d =
    let grown = xs ++ x ∷ [] in
    let end : length grown - 1 ≡ length xs = rw length-append (omega arith) in
    ap (λ n. take n (set grown (length xs) (get_or grown n d))) end
    ∙ take-set grown (length xs) (get_or grown (length xs) d) ∙ take-append_seam xs (x ∷ [])

-- the entries of a map have another one after them, whose key is missing
pub record IsPushed {V : Type 0} (items grown : List (InlinableStringN 30 × V)) (order : Index)
    (key : List ℕ) (value : V) (spot : Spot) (id : ℕ) : Type 0 where
  pub text : InlinableStringN 30
  pub bytes : bytes_at text ≡ key
  pub grown_is : grown ≡ items ++ (text, value) ∷ []
  pub id_is : id ≡ length items
  pub mapped : AreMapped (map entry_of items) order
  pub missing : IsMissing (map entry_of items) order key spot

module _ {V : Type 0} {items grown : List (InlinableStringN 30 × V)} {order : Index}
    {key : List ℕ} {value : V} {spot : Spot} {id : ℕ}
    (is : IsPushed items grown order key value spot id)
  where
    abbrev unpushed : Entries V
    unpushed = map entry_of items

    abbrev pushed : Entries V
    pushed = map entry_of grown

    pub pushed_is : pushed ≡ unpushed ++ (key, value) ∷ []
    pushed_is = ap (map entry_of) is.grown_is ∙ map-append entry_of items ((is.text, value) ∷ [])
        ∙ ap (λ k. unpushed ++ (k, value) ∷ []) is.bytes

    pushed_keys : keys_of pushed ≡ keys_of unpushed ++ key ∷ []
    pushed_keys = ap keys_of pushed_is ∙ map-append (λ f. f.0) unpushed ((key, value) ∷ [])

    keys_count : length (keys_of unpushed) ≡ id
    keys_count = length-map unpushed (λ f. f.0) ∙ length-map items entry_of ∙ sym is.id_is

    under_keys : AllByRecursion (λ id. id < length (keys_of unpushed)) (ids_in order)
    under_keys = subst (λ n. AllByRecursion (λ id. id < n) (ids_in order))
        (sym (length-map unpushed (λ f. f.0))) is.mapped.0.within

    pub pushed_index : IsIndex (text_at (keys_of pushed)) order
    pushed_index = index_with (keys_of unpushed) key pushed_keys order under_keys is.mapped.1

    -- where its key goes
    pub pushed_gap : IsGap (map (text_at (keys_of pushed)) (ids_in order))
        (text_at (keys_of pushed) id) (index_of order spot)
    pushed_gap = gap_with (keys_of unpushed) key pushed_keys (ids_in order) (index_of order spot)
        (sym keys_count) under_keys is.missing.gap

    -- with its number there
    module _ (after : Index) (ids : ids_in after ≡ insert (ids_in order) (index_of order spot) id)
        (index : IsIndex (text_at (keys_of pushed)) after)
      where
        new_ids : ids_in after ≡ insert (ids_in order) (index_of order spot) (length unpushed)
        new_ids = ids ∙ ap (insert (ids_in order) (index_of order spot))
            (is.id_is ∙ sym (length-map items entry_of))

        pub mapped_pushed : AreMapped pushed after
        mapped_pushed =
            let count : length pushed ≡ suc (length unpushed)
            = ap length pushed_is ∙ rw length-append (omega arith) in (
              subst (λ n. AreNumbers n (ids_in after)) (sym count)
                  (subst (AreNumbers (suc (length unpushed))) (sym new_ids)
                  (numbers_with (length unpushed) (index_of order spot) (ids_in order)
                  (rw length-map at is.missing.gap.0) is.mapped.0)),
              index,
            )

        pub entries_pushed : entries_at pushed (ids_in after)
            ≡ with_value (entries_at unpushed (ids_in order)) key value
        entries_pushed = same_entries pushed (ids_in after)
            (insert (entries_at unpushed (ids_in order)) (index_of order spot) (key, value))
            mapped_pushed.0.within (ap (λ es. map (slice_get es) (ids_in after)) pushed_is
            ∙ ap (map (slice_get (unpushed ++ (key, value) ∷ []))) new_ids
            ∙ with_entry unpushed (ids_in order) (index_of order spot) (key, value)
            is.mapped.0.within) ∙ sym (is.missing.put value)

    -- and where it could get none, and goes again
    module _ (after : Index) (ids : ids_in after ≡ ids_in order)
        (index : IsIndex (text_at (keys_of pushed)) after)
        (left : List (InlinableStringN 30 × V)) (gone : InlinableStringN 30 × V)
        (left_is : left ≡ swap_remove grown id gone)
      where
        items_back : left ≡ items
        items_back = rw (left_is, is.grown_is, is.id_is) (last_swapped items (is.text, value) gone)

        pub mapped_back : AreMapped (map entry_of left) after
        mapped_back = rw items_back (
          rw ids is.mapped.0,
          index_without (keys_of unpushed) key pushed_keys after
              (subst (AllByRecursion (λ id. id < length (keys_of unpushed))) (sym ids) under_keys)
              index,
        )

-- a value that was put under a key is replaced
put_again : {V : Type 0} (es : Entries V) (key : List ℕ) (v w : V)
    → with_value (with_value es key v) key w ≡ with_value es key w
put_again [] key v w = rw (tied_itself nat_list_cmp_total key) refl
put_again {V} (e ∷ es) key v w = by (key_order key e.0) refl (put_again es key v w)
  where
    by : (o : Ordering) → key_order key e.0 ≡ o
        → with_value (with_value es key v) key w ≡ with_value es key w
        → with_value {V = V} (match_ordering o ((key, v) ∷ e ∷ es) ((e.0, v) ∷ es)
        (e ∷ with_value es key v)) key w
        ≡ match_ordering o ((key, w) ∷ e ∷ es) ((e.0, w) ∷ es) (e ∷ with_value es key w)
    by Less is rest = rw (tied_itself nat_list_cmp_total key) refl
    by Equal is rest = rw is refl
    by Greater is rest = rw is (ap (λ es. e ∷ es) rest)

-- a map has got a new key, whose entry is the last one
pub record IsPut {V : Type 0} (items grown : List (InlinableStringN 30 × V)) (order after : Index)
    (key : List ℕ) (value : V) (id : ℕ) : Type 0 where
  pub mapped : AreMapped (map entry_of grown) after
  pub grown_is : map entry_of grown ≡ map entry_of items ++ (key, value) ∷ []
  pub put : entries_by (map entry_of grown) after
      ≡ with_value (entries_by (map entry_of items) order) key value
  pub id_is : id ≡ length items

-- its value is read
module _ {V : Type 0} {items grown : List (InlinableStringN 30 × V)} {order after : Index}
    {key : List ℕ} {value : V} {id : ℕ} (is : IsPut items grown order after key value id)
    {x : InlinableStringN 30 × V} (read : x ≡ get_or grown id x)
  where
    abbrev old : Entries V
    old = map entry_of items

    id_old : id ≡ length old
    id_old = is.id_is ∙ sym (length-map items entry_of)

    last_entry : slice_get (map entry_of grown) id ≡ Some (key, value)
    last_entry = rw (is.grown_is, id_old) (at_push old (key, value))

    pub last_value : x.1 ≡ value
    last_value = ap (λ e. e.1) (read_entry grown id x (key, value) last_entry read)

    last_found : (at : ℕ) × IsFound (map entry_of grown) after key at id
    last_found =
        let texts = text_at (keys_of (map entry_of grown)) in
        let place = place_of (ids_in after) id (is.mapped.0.all id
        (slice_get_within (map entry_of grown) id (key, value) last_entry)) in
        let name : texts id ≡ key = get_or_from_slice_get (keys_of (map entry_of grown)) id key []
        (slice_get-map (λ e. e.0) (map entry_of grown) id ∙ ap (option_map (λ e. e.0)) last_entry)
        in (
          place.0,
          found_entry (map entry_of grown) after is.mapped key place.0 id
              (slice_get-map texts (ids_in after) place.0 ∙ ap (option_map texts) place.1
              ∙ ap Some name) place.1,
        )

    -- and then another
    pub last_mapped : (v : V) → AreMapped (map entry_of (set grown id (x.0, v))) after
    last_mapped = mapped_valued grown last_found.1 read is.mapped

    pub last_lent : (λ (v : V). entries_by (map entry_of (set grown id (x.0, v))) after)
        ≡ with_value (entries_by old order) key
    last_lent = lent grown last_found.1 read is.mapped ∙ ap (λ es. with_value es key) is.put
        ∙ fun_ext (put_again (entries_by old order) key value)
