-- A map of which an entry goes: the last one takes its place in the list, and its number.
use Rattle.inline_uses.proofs.Names.{AllByRecursion, AreMapped, AreNumbers, AreOthers, Entries, Index, InlinableStringN, IsFound, IsGap, IsIndex, IsRenumbered, List, Some, ap, arith, entries_at, entry_of, get_or, ids_in, keys_of, length, length-map, map, refl, remove, set, slice_get, slice_get-map, subst, suc, swap_remove, sym, text_at, value_of, without, ℕ, ◌-◌, ◌<◌, ◌∙◌, ◌≡◌}
use Rattle.inline_uses.proofs.Mapped.{found_entry, value_read}
use Rattle.inline_uses.proofs.SameTexts.{same_texts}
use Rattle.inline_uses.proofs.Search.{removed_seen}
use Rattle.inline_uses.proofs.Each.{all_at}
use Rattle.inline_uses.proofs.Numbered.{is_renamed, key_or, keys_at, none_renamed, not_among, numbers_renamed, once, one_index, others_of, place_of, renamed, renamed_seen, same_entries, seen, swapped_length, swapped_moves, swapped_seen, swapped_stays}

-- an index stays one where its ids are others for the same texts
abbrev pub IsKept : Index → Index → Type 0
IsKept before after = (f g : ℕ → List ℕ) → IsIndex f before
    → map g (ids_in after) ≡ map f (ids_in before) → IsIndex g after

-- an index has the numbers of all entries except one
pub record LacksOne {V : Type 0} (es : Entries V) (last id : ℕ) (order : Index) : Type 0 where
  pub all : length es ≡ suc last
  pub within : id < suc last
  pub others : AreOthers (suc last) id (ids_in order)
  pub index : IsIndex (text_at (keys_of es)) order

module _ {V : Type 0} {es : Entries V} {last id : ℕ} {order : Index}
    (is : LacksOne es last id order)
  where
    abbrev text_of : ℕ → List ℕ
    text_of = text_at (keys_of es)

    abbrev texts : List (List ℕ)
    texts = map text_of (ids_in order)

    renumbered : (after : Index) → ids_in after ≡ map (renamed last id) (ids_in order)
        → IsKept order after → IsRenumbered es id order after
    renumbered after ids kept =
        let count : last ≡ length es - 1 = omega (arith, is.all) in
        let same = λ (gone : List ℕ × V). ap (map (slice_get (swap_remove es id gone))) ids
        ∙ renamed_seen last id (ids_in order) is.others is.within
        (slice_get (swap_remove es id gone)) (slice_get es) (swapped_moves es id last gone is.all)
        (swapped_stays es id last gone is.all) in
        record {
          numbers = rw (ids, ← count) (numbers_renamed last id (ids_in order) is.others is.within);
          same = same;
          index = λ gone. kept text_of (text_at (keys_of (swap_remove es id gone))) is.index
              (keys_at (swap_remove es id gone) (ids_in after) ∙ ap (map key_or) (same gone)
              ∙ sym (keys_at es (ids_in order)));
        }

    -- the last one went
    pub last_renumbered : id ≡ last → IsRenumbered es id order order
    last_renumbered same = renumbered order (sym (none_renamed last id (ids_in order)
        (subst (λ n. AllByRecursion (λ other. ¬ (other ≡ n)) (ids_in order)) same is.others.apart)))
        (λ f g is texts. same_texts f g order texts is)

    -- another went, so the last one is there
    module _ (not : ¬ (id ≡ last)) where
      last_place : (at : ℕ) × (slice_get (ids_in order) at ≡ Some last)
      last_place = place_of (ids_in order) last
          (is.others.all last (omega arith) (λ same. not (sym same)))

      last_text : slice_get texts last_place.0 ≡ Some (text_of last)
      last_text = rw (slice_get-map, last_place.1) refl

      pub last_there : (at : ℕ) → IsGap texts (text_of last) at → ⊥
      last_there at gap = not_among texts (text_of last) at last_place.0 gap last_text

      -- and gets the number where its key is found
      pub other_renumbered : (at : ℕ) (after : Index) → slice_get texts at ≡ Some (text_of last)
          → ids_in after ≡ set (ids_in order) at id → IsKept order after
          → IsRenumbered es id order after
      other_renumbered at after found ids kept =
          let same = one_index texts at last_place.0 (text_of last) is.index.sorted found
          last_text in
          let here : slice_get (ids_in order) at ≡ Some last = rw same last_place.1 in
          renumbered after (ids ∙ is_renamed last id (ids_in order) at here
          (once text_of (ids_in order) at last here is.index.sorted)) kept

-- a number in an index is that of an element
pub number_within : {V : Type 0} (items : List (InlinableStringN 30 × V)) (order : Index)
    (at id : ℕ) → slice_get (ids_in order) at ≡ Some id → AreMapped (map entry_of items) order
    → id < length items
number_within items order at id is mapped = rw length-map at
    (all_at (λ id. id < length (map entry_of items)) (ids_in order) at id mapped.0.within (sym is))

-- a key is at an index among those of a map, and its entry has a number
pub record IsAtIndex {V : Type 0} (items : List (InlinableStringN 30 × V)) (order : Index)
    (key : List ℕ) (at id : ℕ) : Type 0 where
  pub mapped : AreMapped (map entry_of items) order
  pub text : slice_get (map (text_at (keys_of (map entry_of items))) (ids_in order)) at ≡ Some key
  pub number : slice_get (ids_in order) at ≡ Some id

module _ {V : Type 0} {items : List (InlinableStringN 30 × V)} {order : Index} {key : List ℕ}
    {at id : ℕ} (is : IsAtIndex items order key at id)
  where
    abbrev es : Entries V
    es = map entry_of items

    abbrev view : Entries V
    view = entries_at es (ids_in order)

    found : IsFound es order key at id
    found = found_entry es order is.mapped key at id is.text is.number

    pub value_left : {x : InlinableStringN 30 × V} → x ≡ get_or items id x
        → Some x.1 ≡ value_of view key
    value_left read = value_read items found read

    -- the number goes out of the index
    pub others_left : (left : Index) → ids_in left ≡ remove (ids_in order) at
        → AreOthers (length items) id (ids_in left)
    others_left left ids = rw (ids, ← length-map items entry_of) (others_of (length es) at id
        (ids_in order) is.number
        (once (text_at (keys_of es)) (ids_in order) at id is.number is.mapped.1.sorted)
        is.mapped.0)

    -- the element goes out of the list, where the last entry gets its number
    module _ (x : InlinableStringN 30 × V) (left after : Index)
        (they : IsRenumbered es id left after)
      where
        abbrev new : Entries V
        new = map entry_of (swap_remove items id x)

        new_is : new ≡ swap_remove es id (entry_of x)
        new_is = swapped_seen entry_of items id x

        pub mapped_left : AreMapped new after
        mapped_left =
            let within = number_within items order at id is.number is.mapped in
            let count = swapped_length es id (length es - 1) (entry_of x)
            (omega (arith, within, length-map items entry_of)) in
            subst (λ es. AreMapped es after) (sym new_is) (
              subst (λ n. AreNumbers n (ids_in after)) (sym count) they.numbers,
              they.index (entry_of x),
            )

        pub entries_left : ids_in left ≡ remove (ids_in order) at
            → entries_at new (ids_in after) ≡ without view key
        entries_left ids = same_entries new (ids_in after) (remove view at) mapped_left.0.within
            (ap (λ es. map (slice_get es) (ids_in after)) new_is ∙ they.same (entry_of x)
            ∙ ap (map (slice_get es)) ids ∙ removed_seen (slice_get es) (ids_in order) at
            ∙ ap (λ xs. remove xs at) (sym (seen es (ids_in order) is.mapped.0.within))
            ∙ sym (removed_seen Some view at)) ∙ sym found.left
