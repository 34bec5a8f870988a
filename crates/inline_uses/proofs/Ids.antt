-- The ids of texts in the order of their texts, and how a new text is found among them.
use Rattle.inline_uses.proofs.Names.{AllByRecursion, Bool, Equal-is, HaveOneId, Index, IsGap, IsIndex, IsOrderOf, IsPermutation, IsPermutation-insert, IsPermutation-push_more, IsPermutation-refl, IsStrictlySortedBy, List, Some, [], add-one, ap, arith, cond, eq_by_cmp, eq_by_cmp_equiv, exact_bytes, false, get_or-append_seam, get_or_append_left, get_or_from_slice_get, ids_in, inl, inr, insert, is_at, is_eq, key_order, keys_of, length, length-append, lookup, lookup-insert, map, map-id, map-map, map-range_with_len_more, nat_list_cmp_total, none_passes_from_lookup, range_with_len, refl, slice_get, subst, suc, sym, text_at, tied_itself, true, with_ids, ℕ, ◌++◌, ◌<◌, ◌↔◌, ◌∙◌, ◌∷◌, ◌≡◌}
use Rattle.inline_uses.proofs.Search.{seen_at, inserted_seen, none, ordered_put}
use Rattle.inline_uses.proofs.SameTexts.{same_texts}
use Rattle.inline_uses.proofs.Each.{all_insert, all_weaker}
use Rattle.inline_uses.proofs.Tables.{at_push, before_append, from_push}

-- no text has two ids
pub once : (texts : List (List ℕ)) (ids : List ℕ) → IsOrderOf texts ids → HaveOneId texts
once texts ids order i j text is js =
    let e = (order.found text i).1 is in
    let f = (order.found text j).1 js in
    cc

-- ids keep their texts when there is one more
with_ids_more : (texts : List (List ℕ)) (text : List ℕ) (ids : List ℕ)
    → AllByRecursion (λ id. id < length texts) ids
    → with_ids (texts ++ text ∷ []) ids ≡ with_ids texts ids
with_ids_more texts text [] all = refl
with_ids_more texts text (id ∷ ids) all =
    rw (get_or_append_left texts (text ∷ []) [] id all.0)
    (ap (λ rest. (text_at texts id, id) ∷ rest) (with_ids_more texts text ids all.1))

next : (n : ℕ) → range_with_len 0 (suc n) ≡ range_with_len 0 n ++ n ∷ []
next n = rw (map-id, map-id, add-one)
    at (map-range_with_len_more (λ i. i) 0 n n (omega arith))

-- with the next id all are there
all_more : (n : ℕ) (ids : List ℕ) (at : ℕ) → IsPermutation (range_with_len 0 n) ids
    → IsPermutation (range_with_len 0 (suc n)) (insert ids at n)
all_more n ids at all = rw (next n) (IsPermutation-push_more (range_with_len 0 n) ids
    (insert ids at n) n all (IsPermutation-insert ids at n))

module _ (texts : List (List ℕ)) (ids : List ℕ) (text : List ℕ) (at : ℕ)
    (order : IsOrderOf texts ids) (gap : IsGap (keys_of (with_ids texts ids)) text at)
  where
    -- a text that goes at an index has no id
    pub no_id : (id : ℕ) → slice_get texts id ≡ Some text → ⊥
    no_id id is =
        let found = (order.found text id).1 is in
        let absent = (none text (with_ids texts ids) at gap).0 in
        cc

    grown : with_ids (texts ++ text ∷ []) (insert ids at (length texts))
        ≡ insert (with_ids texts ids) at (text, length texts)
    grown = inserted_seen (λ id. (text_at (texts ++ text ∷ []) id, id)) ids at (length texts)
        ∙ rw (with_ids_more texts text ids order.within, get_or-append_seam) refl

    -- the new text is found under the next id, and the others under theirs
    found_anew : (q : List ℕ) (id : ℕ) (b : Bool) → eq_by_cmp key_order text q ≡ b
        → (cond b (Some (length texts)) (lookup (is_at (key_order q)) (with_ids texts ids)) ≡ Some
        id) ↔ (slice_get (texts ++ text ∷ []) id ≡ Some q)
    found_anew q id true is =
        let same : text ≡ q = exact_bytes text q ((Equal-is (key_order text q)).0 is) in (
          (λ h. let e : length texts ≡ id = cc in
              subst (λ n. slice_get (texts ++ text ∷ []) n ≡ Some q) e
              (at_push texts text ∙ ap Some same)),
          λ h. elim (from_push texts q text id h) [
            | inl old ↦ absurd (no_id id (old ∙ ap Some (sym same)))
            | inr new ↦ ap Some (sym new.0)
          ],
        )
    found_anew q id false is = (
      (λ h. before_append texts (text ∷ []) id q ((order.found q id).0 h)),
      λ h. elim (from_push texts q text id h) [
        | inl old ↦ (order.found q id).1 old
        | inr new ↦ let e : eq_by_cmp key_order text q ≡ true
            = subst (λ x. eq_by_cmp key_order text x ≡ true) new.1
            (ap is_eq (tied_itself nat_list_cmp_total text)) in cc
      ],
    )

    pub added : IsOrderOf (texts ++ text ∷ []) (insert ids at (length texts))
    added =
        let n = length texts in
        let es = with_ids texts ids in
        let count : length (texts ++ text ∷ []) ≡ suc n
        = omega (arith, length-append texts (text ∷ [])) in
        let looks : (q : List ℕ) → lookup (is_at (key_order q)) (insert es at (text, n)) ≡ cond
        (eq_by_cmp key_order text q) (Some n) (lookup (is_at (key_order q)) es)
        = λ q. lookup-insert (eq_by_cmp_equiv nat_list_cmp_total) text n q es at
        (none_passes_from_lookup (eq_by_cmp key_order text) es (none text es at gap).0) in
        record {
          sorted = rw (grown, ← (none text es at gap).2 n) (ordered_put es text n order.sorted);
          within = rw count (all_insert (λ id. id < suc n) at ids n (all_weaker (λ id. id < n)
              (λ id. id < suc n) (λ id less. omega (arith, less)) ids order.within) (omega arith));
          all = rw count (all_more n ids at order.all);
          found = λ q id. rw (grown, looks q) (found_anew q id (eq_by_cmp key_order text q) refl);
        }

-- the keys of ids are their texts
pub keys_are : (texts : List (List ℕ)) (ids : List ℕ)
    → keys_of (with_ids texts ids) ≡ map (text_at texts) ids
keys_are texts ids = map-map (λ (e : List ℕ × ℕ). e.0) (λ id. (text_at texts id, id)) ids

-- an id that a text has in the order of the texts is its own
pub found_among : (texts : List (List ℕ)) (ids : List ℕ) (text : List ℕ) (at x : ℕ)
    → IsOrderOf texts ids → slice_get (map (text_at texts) ids) at ≡ Some text
    → slice_get ids at ≡ Some x → (id : ℕ) → (Some x ≡ Some id) ↔ (slice_get texts id ≡ Some text)
found_among texts ids text at x order found is id =
    subst (λ o. (o ≡ Some id) ↔ (slice_get texts id ≡ Some text))
    (seen_at (λ id. (text_at texts id, id)) ids at x text order.sorted
    (rw (keys_are texts ids) found) (sym (get_or_from_slice_get ids at x x is))).1
    (order.found text id)

-- ids that are there have the same texts when there is one more
module _ (texts : List (List ℕ)) (text : List ℕ) {grown : List (List ℕ)}
    (grown_is : grown ≡ texts ++ text ∷ [])
  where
    texts_stay : (ids : List ℕ) → AllByRecursion (λ id. id < length texts) ids
        → map (text_at grown) ids ≡ map (text_at texts) ids
    texts_stay [] all = refl
    texts_stay (id ∷ ids) all = rw (texts_stay ids all.1, grown_is)
        (ap (λ t. t ∷ map (text_at texts) ids) (get_or_append_left texts (text ∷ []) [] id all.0))

    -- so an index of them is one, and goes back
    pub index_with : (index : Index) → AllByRecursion (λ id. id < length texts) (ids_in index)
        → IsIndex (text_at texts) index → IsIndex (text_at grown) index
    index_with index all is =
        same_texts (text_at texts) (text_at grown) index (texts_stay (ids_in index) all) is

    pub index_without : (index : Index) → AllByRecursion (λ id. id < length texts) (ids_in index)
        → IsIndex (text_at grown) index → IsIndex (text_at texts) index
    index_without index all is = same_texts (text_at grown) (text_at texts) index
        (sym (texts_stay (ids_in index) all)) is

    -- and where the text goes it still goes
    pub gap_with : (ids : List ℕ) (at : ℕ) {id : ℕ} → id ≡ length texts
        → AllByRecursion (λ id. id < length texts) ids → IsGap (map (text_at texts) ids) text at
        → IsGap (map (text_at grown) ids) (text_at grown id) at
    gap_with ids at is all gap = rw (texts_stay ids all, grown_is, is, get_or-append_seam) gap

pub empty : IsOrderOf [] []
unfolding IsStrictlySortedBy
empty = record {
  sorted = tt;
  within = tt;
  all = IsPermutation-refl [];
  found = λ text id. ((λ h. cc), λ h. cc);
}
