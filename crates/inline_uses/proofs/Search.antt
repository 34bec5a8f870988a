-- What a search among keys in order finds, and what an edit there does to the entries.
use Rattle.inline_uses.proofs.Names.{All-from_recursion, All-weaker, Bool, Equal, Greater, IsGap, IsStrictlySortedBy, Less, Less-from_sorted, List, None, Ordering, Some, [], ap, arith, drop, drop-map, exact_bytes, false, get_or, get_or-map, get_or_from_slice_get, insert, is_at, is_gt, key_order, keys_of, length, length-map, lookup, map, map-append, map-set, match_ordering, nat_list_cmp_total, option_map, recursion_from_All, refl, remove, set, slice_get, slice_get-get_or, slice_get-map, slice_get_within, suc, sym, take, take-map, take-nil, tied_itself, true, zero, ℕ, ◌+◌, ◌-◌, ◌/◌, ◌<◌, ◌∙◌, ◌∷◌, ◌≡◌, ◌≤◌}
use Rattle.std.proofs.Common.{All, filter}
use Rattle.std.proofs.Math.Seq.{drop-nil}
use Rattle.std.proofs.lemmas.Bool.{cond_both}
use Rattle.std.proofs.lemmas.List.{get_or_default}
use Rattle.std.proofs.lemmas.Map.Entries.{length-keys_of}
use Rattle.std.proofs.lemmas.Map.Keys.{sorted_tail}
use Rattle.std.proofs.lemmas.Map.Views.{All-keys-insert_entry, All-map-remove_entry}
use Rattle.std.specs.Map.{remove_entry}
use Rattle.std.specs.BTreeMap.{insert_entry}
use Rattle.inline_uses.proofs.Gaps.{AreAbove, AreBelow, parts_of_gap, turned, turned_back}

-- a key goes among others from one index on, and not after another
abbrev pub GoesWithin : List (List ℕ) → List ℕ → ℕ → ℕ → Type 0
GoesWithin keys key start end = (start ≤ end) × (end ≤ length keys)
    × ((i : ℕ) → i < start → key_order key (get_or keys i []) ≡ Greater)
    × ((i : ℕ) → end ≤ i → i < length keys → key_order key (get_or keys i []) ≡ Less)

-- a comparison to one of them narrows where it goes, or finds it
module _ (keys : List (List ℕ)) (key : List ℕ) (start end at : ℕ)
    (sorted : IsStrictlySortedBy key_order keys) (part : GoesWithin keys key start end)
    (from : start ≤ at) (to : at < end)
  where
    pub goes_after : key_order (get_or keys at []) key ≡ Less → GoesWithin keys key (at + 1) end
    goes_after below = (
      omega (arith, to),
      part.1,
      (λ i less.
          let before : i < at → key_order key (get_or keys i []) ≡ Greater
          = λ l. turned _ key (nat_list_cmp_total.trans _ (get_or keys at []) key
          (Less-from_sorted key_order keys i at [] sorted l (omega (arith, to, part.1))) below) in
          let here : i ≡ at → key_order key (get_or keys i []) ≡ Greater
          = λ e. rw e (turned _ key below) in
          grind (arith, before, here)),
      part.3,
    )

    pub goes_before : key_order (get_or keys at []) key ≡ Greater
        → GoesWithin keys key start at
    goes_before above = (
      from,
      omega (arith, to, part.1),
      part.2,
      λ i le less.
          let here : key_order key (get_or keys at []) ≡ Less = turned_back _ key above in
          let after : at < i → key_order key (get_or keys i []) ≡ Less
          = λ l. nat_list_cmp_total.trans key (get_or keys at []) _ here
          (Less-from_sorted key_order keys at i [] sorted l less) in
          let same : at ≡ i → key_order key (get_or keys i []) ≡ Less = λ e. rw (← e) here in
          grind (arith, after, same),
    )

    pub is_there : key_order (get_or keys at []) key ≡ Equal → slice_get keys at ≡ Some key
    is_there equal = slice_get-get_or keys at [] (omega (arith, to, part.1))
        ∙ ap Some (exact_bytes _ _ equal)

-- a key above the last one goes after all
pub past_all : {A : Type 0} (f : A → List ℕ) (xs : List A) (key : List ℕ) (at : ℕ) (x : A)
    → IsStrictlySortedBy key_order (map f xs) → slice_get xs at ≡ Some x → at + 1 ≡ length xs
    → key_order (f x) key ≡ Less → IsGap (map f xs) key (length xs)
past_all f xs key at x sorted is last below =
    let keys = map f xs in
    let count : length keys ≡ at + 1 = length-map xs f ∙ sym last in
    let here : get_or keys at [] ≡ f x
    = get_or_from_slice_get keys at (f x) [] (slice_get-map f xs at ∙ ap (option_map f) is) in
    let past = goes_after keys key 0 (at + 1) at sorted (
      omega arith,
      omega (arith, count),
      (λ i less. absurd (omega arith)),
      λ i le less. absurd (omega (arith, count, le, less)),
    ) (omega arith) (omega arith) (rw here below) in
    rw (← last) (omega (arith, count), past.2, past.3)

-- a comparison to the key in the middle narrows where a key goes, or finds it
pub compared : {A : Type 0} (f : A → List ℕ) (xs : List A) {key : List ℕ} {start end : ℕ} {x : A}
    {o : Ordering} → IsStrictlySortedBy key_order (map f xs) → GoesWithin (map f xs) key start end
    → start < end → x ≡ get_or xs (start + (end - start) / 2) x → o ≡ key_order (f x) key
    → (o ≡ Less → GoesWithin (map f xs) key (start + (end - start) / 2 + 1) end)
    × (o ≡ Equal → slice_get (map f xs) (start + (end - start) / 2) ≡ Some key)
    × (o ≡ Greater → GoesWithin (map f xs) key start (start + (end - start) / 2))
compared f xs {key} {start} {end} {x} {o} sorted part less read is =
    let at = start + (end - start) / 2 in
    let from : start ≤ at = omega arith in
    let to : at < end = omega (arith, less) in
    let within : at < length xs = omega (arith, to, part.1, length-map xs f) in
    let seen : key_order (get_or (map f xs) at []) key ≡ o = ap (λ k. key_order k key)
    (get_or-map f xs at x [] within ∙ ap f (sym read)) ∙ sym is in (
      (λ l. goes_after _ key start end at sorted part from to (seen ∙ l)),
      (λ l. is_there _ key start end at sorted part from to (seen ∙ l)),
      λ l. goes_before _ key start end at sorted part from to (seen ∙ l),
    )

-- a key among entries: it goes at an index, or it is there
module _ {X : Type 0} (key : List ℕ) where
  none_between : (es : List (List ℕ × X)) (at : ℕ) → at ≤ length es
      → AreBelow key (take at (keys_of es)) × AreAbove key (drop at (keys_of es))
      → (lookup (is_at (key_order key)) es ≡ None)
      × (remove_entry (is_at (key_order key)) es ≡ es)
      × ((value : X) → insert_entry key_order es key value ≡ insert es at (key, value))
  none_between [] zero within parts = (refl, refl, λ value. refl)
  none_between [] (suc at) within parts = absurd (omega (arith, within))
  none_between (e ∷ es) zero within parts =
      let rest = none_between es zero (omega arith) (tt, parts.1.1) in
      rw parts.1.0 (rest.0, ap (λ es. e ∷ es) rest.1, λ value. refl)
  none_between (e ∷ es) (suc at) within parts =
      let rest = none_between es at (omega (arith, within)) (parts.0.1, parts.1) in
      rw (turned e.0 key parts.0.0)
      (rest.0, ap (λ es. e ∷ es) rest.1, λ value. ap (λ es. e ∷ es) (rest.2 value))

  -- where it goes, none is, and it is put there
  pub none : (es : List (List ℕ × X)) (at : ℕ) → IsGap (keys_of es) key at
      → (lookup (is_at (key_order key)) es ≡ None)
      × (remove_entry (is_at (key_order key)) es ≡ es)
      × ((value : X) → insert_entry key_order es key value ≡ insert es at (key, value))
  none es at gap =
      none_between es at (rw length-keys_of at gap.0) (parts_of_gap key (keys_of es) at gap)

  -- one that is there is looked up, taken out and gets a value at its index
  pub there : (es : List (List ℕ × X)) (at : ℕ)
      → IsStrictlySortedBy key_order (keys_of es) → slice_get (keys_of es) at ≡ Some key
      → (value : X) × (slice_get es at ≡ Some (key, value))
      × (lookup (is_at (key_order key)) es ≡ Some value)
      × (remove_entry (is_at (key_order key)) es ≡ remove es at)
      × ((v : X) → insert_entry key_order es key v ≡ set es at (key, v))
  there [] at sorted is = cc
  there (e ∷ es) zero sorted is =
      let same : e.0 ≡ key = cc in
      rw (same, tied_itself nat_list_cmp_total key) (e.1, refl, refl, refl, λ v. refl)
  there (e ∷ es) (suc at) sorted is =
      let (value, entry, found, left, put) = there es at (sorted_tail key_order _ _ sorted) is in
      let less = Less-from_sorted key_order (keys_of (e ∷ es)) 0 (suc at) [] sorted (omega arith)
      (omega (arith, slice_get_within (keys_of es) at key is)) in
      let past = turned e.0 key (rw (get_or_from_slice_get (keys_of es) at key [] is) at less) in
      rw past (value, entry, found, ap (λ es. e ∷ es) left, λ v. ap (λ es. e ∷ es) (put v))

-- those before the index of a key are below it, and the others are not
pub parted_at : (key : List ℕ) (keys : List (List ℕ)) (at : ℕ)
    → IsStrictlySortedBy key_order keys → slice_get keys at ≡ Some key
    → ((i : ℕ) → i < at → is_gt (key_order key (get_or keys i [])) ≡ true)
    × ((i : ℕ) → at ≤ i → i < length keys
    → is_gt (key_order key (get_or keys i [])) ≡ false)
parted_at key keys at sorted is =
    let here = get_or_from_slice_get keys at key [] is in
    let within = slice_get_within keys at key is in (
      (λ i less. ap is_gt (turned _ key
          (rw here at (Less-from_sorted key_order keys i at [] sorted less within)))),
      λ i le below.
          let more : at < i → is_gt (key_order key (get_or keys i [])) ≡ false
          = λ l. ap is_gt (rw here at (Less-from_sorted key_order keys at i [] sorted l below)) in
          let equal : at ≡ i → is_gt (key_order key (get_or keys i [])) ≡ false
          = λ e. rw (← e, here, tied_itself nat_list_cmp_total key) refl in
          grind (arith, more, equal),
    )

-- the entries that pass a test of their keys, where these are next to each other
pub run : {X : Type 0} (test : List ℕ → Bool) (es : List (List ℕ × X)) (i n : ℕ)
    → ((k : ℕ) → k < i → k < length es → test (get_or (keys_of es) k []) ≡ false)
    → ((k : ℕ) → i ≤ k → k < i + n → k < length es → test (get_or (keys_of es) k []) ≡ true)
    → ((k : ℕ) → i + n ≤ k → k < length es → test (get_or (keys_of es) k []) ≡ false)
    → filter (λ e. test e.0) es ≡ take n (drop i es)
run test [] i n before within after = rw (drop-nil, take-nil) refl
run test (e ∷ es) (suc i) n before within after =
    rw (before 0 (omega arith) (omega arith))
    (run test es i n (λ k l b. before (suc k) (omega arith) (omega arith))
    (λ k l m b. within (suc k) (omega arith) (omega arith) (omega arith))
    (λ k l b. after (suc k) (omega arith) (omega arith)))
run test (e ∷ es) zero zero before within after =
    rw (after 0 (omega arith) (omega arith))
    (run test es zero zero (λ k l b. absurd (omega arith))
    (λ k l m b. absurd (omega arith))
    (λ k l b. after (suc k) (omega arith) (omega arith)))
run test (e ∷ es) zero (suc n) before within after =
    rw (within 0 (omega arith) (omega arith) (omega arith)) (ap (λ rest. e ∷ rest)
    (run test es zero n (λ k l b. absurd (omega arith))
    (λ k l m b. within (suc k) (omega arith) (omega arith) (omega arith))
    (λ k l b. after (suc k) (omega arith) (omega arith))))

-- the order stays
pub ordered_put : {X : Type 0} (es : List (List ℕ × X)) (key : List ℕ) (value : X)
    → IsStrictlySortedBy key_order (keys_of es)
    → IsStrictlySortedBy key_order (keys_of (insert_entry key_order es key value))
unfolding IsStrictlySortedBy
ordered_put [] key value sorted = (tt, tt)
ordered_put (e ∷ es) key value sorted =
    by (key_order key e.0) refl (ordered_put es key value sorted.1)
  where
    all : All (λ q. key_order e.0 q ≡ Less) (keys_of es)
    all = All-from_recursion (λ q. key_order e.0 q ≡ Less) (keys_of es) sorted.0

    by : (o : Ordering) → key_order key e.0 ≡ o
        → IsStrictlySortedBy key_order (keys_of (insert_entry key_order es key value))
        → IsStrictlySortedBy key_order
        (keys_of (match_ordering o ((key, value) ∷ e ∷ es) ((e.0, value) ∷ es)
        (e ∷ insert_entry key_order es key value)))
    by Less is rest = (
      (
        is,
        recursion_from_All (λ q. key_order key q ≡ Less) (keys_of es)
            (All-weaker (λ q. key_order e.0 q ≡ Less) (λ q. key_order key q ≡ Less)
            (λ q less. nat_list_cmp_total.trans key e.0 q is less) (keys_of es) all),
      ),
      sorted,
    )
    by Equal is rest = sorted
    by Greater is rest = (
      recursion_from_All (λ q. key_order e.0 q ≡ Less)
          (keys_of (insert_entry key_order es key value))
          (All-keys-insert_entry key_order key value (λ q. key_order e.0 q ≡ Less) es all
          (turned_back key e.0 is)),
      rest,
    )

pub ordered_left : {X : Type 0} (es : List (List ℕ × X)) (test : List ℕ → Bool)
    → IsStrictlySortedBy key_order (keys_of es)
    → IsStrictlySortedBy key_order (keys_of (remove_entry test es))
unfolding IsStrictlySortedBy
ordered_left [] test sorted = tt
ordered_left (e ∷ es) test sorted = cond_both (test e.0) es (e ∷ remove_entry test es)
    (λ es. IsStrictlySortedBy key_order (keys_of es)) (λ _. sorted.1)
    (λ _. (
      recursion_from_All (λ q. key_order e.0 q ≡ Less) (keys_of (remove_entry test es))
          (All-map-remove_entry test (λ f. f.0) (λ q. key_order e.0 q ≡ Less) es
          (All-from_recursion (λ q. key_order e.0 q ≡ Less) (keys_of es) sorted.0)),
      ordered_left es test sorted.1,
    ))

-- an edit of a list is one of what is seen of it
pub inserted_seen : {A B : Type 0} (f : A → B) (xs : List A) (at : ℕ) (x : A)
    → map f (insert xs at x) ≡ insert (map f xs) at (f x)
inserted_seen f xs at x = rw (map-append, take-map, drop-map) refl

pub removed_seen : {A B : Type 0} (f : A → B) (xs : List A) (at : ℕ)
    → map f (remove xs at) ≡ remove (map f xs) at
removed_seen f xs at = rw (map-append, take-map, drop-map) refl

-- entries that are seen of the elements of a list in order, with the element of a key
module _ {A X : Type 0} (f : A → List ℕ × X) (xs : List A) (at : ℕ) (x : A) (key : List ℕ)
    (sorted : IsStrictlySortedBy key_order (keys_of (map f xs)))
    (is : slice_get (keys_of (map f xs)) at ≡ Some key) (read : x ≡ get_or xs at x)
  where
    pub seen_at : ((f x).0 ≡ key) × (lookup (is_at (key_order key)) (map f xs) ≡ Some (f x).1)
    seen_at =
        let entry = there key (map f xs) at sorted is in
        let within = slice_get_within (map f xs) at _ entry.1 in
        let seen : slice_get (map f xs) at ≡ Some (f x)
        = slice_get-map f xs at ∙ ap (option_map f)
        (slice_get-get_or xs at x (rw length-map at within) ∙ ap Some (sym read)) in
        (cc, entry.2 ∙ cc)

-- elements with another, of which the entries with a value under a key are seen, in order
abbrev pub IsPut : {A X : Type 0} → (A → List ℕ × X) → List A → List (List ℕ × X) → List ℕ → X
    → Type 0
IsPut f new es key value = (map f new ≡ insert_entry key_order es key value)
    × IsStrictlySortedBy key_order (keys_of (map f new))

module _ {A X : Type 0} (f : A → List ℕ × X) (xs : List A) (es : List (List ℕ × X))
    (seen : map f xs ≡ es) (at : ℕ) (key : List ℕ) (value : X) (y : A)
    (sorted : IsStrictlySortedBy key_order (keys_of es))
  where
    put_as : (new : List A) → map f new ≡ insert_entry key_order es key value
        → IsPut f new es key value
    put_as new e = (e, rw e (ordered_put es key value sorted))

    -- in place of the one of the key
    pub replaced : (d : A) → slice_get (keys_of es) at ≡ Some key
        → f y ≡ ((f (get_or xs at d)).0, value) → IsPut f (set xs at y) es key value
    replaced d is e =
        let x = get_or xs at d in
        let within : at < length xs = omega (
          arith,
          slice_get_within (keys_of es) at key is,
          length-keys_of es,
          ap length seen,
          length-map xs f,
        ) in
        let old = seen_at f xs at x key (rw seen sorted) (rw seen is)
        (get_or_default xs at d x within) in
        put_as _ (map-set f xs at y ∙ rw (seen, e, old.0)
        (sym ((there key es at sorted is).4 value)))

    -- as a new one
    pub inserted : IsGap (keys_of es) key at → f y ≡ (key, value)
        → IsPut f (insert xs at y) es key value
    inserted gap e = put_as _ (inserted_seen f xs at y
        ∙ rw (seen, e) (sym ((none key es at gap).2 value)))
