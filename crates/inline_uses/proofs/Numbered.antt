-- Entries by their numbers, and lists of these numbers: what an edit does to both.
use Rattle.std.proofs.lemmas.Bool.Decides.{nat_tests}
use Rattle.std.proofs.Common.{eqb}
use Rattle.inline_uses.proofs.Names.{AllByRecursion, AreNumbers, AreOthers, Entries, Equal, Has, IsGap, IsStrictlySortedBy, Less-from_sorted, List, None, Option, Some, [], ap, arith, cases_eq, cases_lt, common_steps, cond, drop, entries_at, get_or, get_or_from_slice_get, gets, inl, inr, insert, key_order, keys_of, length, length-insert, length-map, length-remove, length-set, length-take-le, map, map-append, map-id, map-map, map-set, nat_list_cmp_total, refl, remove, set, slice_get, slice_get-get_or, slice_get-map, slice_get_within, subst, suc, swap_remove, sym, take, text_at, tied_itself, zero, ℕ, ◌++◌, ◌-◌, ◌<◌, ◌∙◌, ◌∷◌, ◌≡◌, ◌≤◌, ◌⊎◌}
use Rattle.std.proofs.Math.ListN.{get_or-map}
use Rattle.std.specs.List.{take-map}
use Rattle.inline_uses.proofs.Search.{inserted_seen}
use Rattle.inline_uses.proofs.Each.{all_append, all_drop, all_insert, all_map, all_take, all_weaker}
use Rattle.inline_uses.proofs.Tables.{at_push, before_append}

-- a list with another element
module _ {X : Type 0} where
  pub other_set : (xs : List X) (at i : ℕ) (y : X) → ¬ (i ≡ at)
      → slice_get (set xs at y) i ≡ slice_get xs i
  other_set xs at i y not = grind (arith, common_steps, gets, not)

  pub this_set : (xs : List X) (at : ℕ) (y : X) → at < length xs
      → slice_get (set xs at y) at ≡ Some y
  this_set xs at y within = grind (arith, common_steps, gets)

  all_some : (xs ys : List X) → map Some xs ≡ map Some ys → xs ≡ ys
  all_some [] [] same = refl
  all_some (x ∷ xs) (y ∷ ys) same = let rest = all_some xs ys (cc) in cc
  all_some xs ys same = cc

  one : (xs : List X) (i : ℕ) → i < length xs → map Some (take 1 (drop i xs)) ≡ slice_get xs i ∷ []
  one xs i less = grind (arith, common_steps, gets)

-- one that is there is at an index
pub place_of : (ids : List ℕ) (id : ℕ) → Has ids id → (at : ℕ) × (slice_get ids at ≡ Some id)
place_of [] id has = absurd has
place_of (x ∷ ids) id (inl same) = (0, ap Some same)
place_of (x ∷ ids) id (inr has) = let rest = place_of ids id has in (suc rest.0, rest.1)

has_map : (f : ℕ → ℕ) (ids : List ℕ) (id : ℕ) → Has ids id → Has (map f ids) (f id)
has_map f [] id has = has
has_map f (x ∷ ids) id (inl same) = inl (ap f same)
has_map f (x ∷ ids) id (inr has) = inr (has_map f ids id has)

-- with one more it has that one and the others, and without one the others
has_with : (ids : List ℕ) (at new id : ℕ) → (new ≡ id) ⊎ Has ids id → Has (insert ids at new) id
has_with ids zero new id has = has
has_with [] (suc at) new id has = has
has_with (x ∷ ids) (suc at) new id (inl same) = inr (has_with ids at new id (inl same))
has_with (x ∷ ids) (suc at) new id (inr (inl same)) = inl same
has_with (x ∷ ids) (suc at) new id (inr (inr has)) = inr (has_with ids at new id (inr has))

has_without : (ids : List ℕ) (at gone id : ℕ) → slice_get ids at ≡ Some gone → ¬ (id ≡ gone)
    → Has ids id → Has (remove ids at) id
has_without [] at gone id is not has = absurd has
has_without (x ∷ ids) zero gone id is not (inl same) = absurd (not (cc))
has_without (x ∷ ids) zero gone id is not (inr has) = has
has_without (x ∷ ids) (suc at) gone id is not (inl same) = inl same
has_without (x ∷ ids) (suc at) gone id is not (inr has) =
    inr (has_without ids at gone id is not has)

-- what two lists have under numbers alike
pub alike : {Y : Type 0} (f g : ℕ → Y) (ids : List ℕ) → AllByRecursion (λ id. f id ≡ g id) ids
    → map f ids ≡ map g ids
alike f g [] all = refl
alike f g (id ∷ ids) all = rw (all.0, alike f g ids all.1) refl

-- a number is in a list at one index only
abbrev pub IsOnce : List ℕ → ℕ → ℕ → Type 0
IsOnce ids at id = (i : ℕ) → slice_get ids i ≡ Some id → i ≡ at

apart : (id : ℕ) (ids : List ℕ) → ((i : ℕ) → slice_get ids i ≡ Some id → ⊥)
    → AllByRecursion (λ other. ¬ (other ≡ id)) ids
apart id [] none = tt
apart id (x ∷ ids) none = ((λ same. none 0 (ap Some same)), apart id ids (λ i. none (suc i)))

-- the others are not it
left_apart : (ids : List ℕ) (at id : ℕ) → IsOnce ids at id
    → AllByRecursion (λ other. ¬ (other ≡ id)) (remove ids at)
left_apart [] zero id once = tt
left_apart [] (suc at) id once = tt
left_apart (x ∷ ids) zero id once = apart id ids (λ i is. omega (arith, once (suc i) is))
left_apart (x ∷ ids) (suc at) id once = (
  (λ same. omega (arith, once 0 (ap Some same))),
  left_apart ids at id (λ i is. omega (arith, once (suc i) is)),
)

-- what differs at a number alone differs at its index alone
pub one_differs : {Y : Type 0} (f g : ℕ → Y) (ids : List ℕ) (at id : ℕ)
    → slice_get ids at ≡ Some id → IsOnce ids at id
    → ((other : ℕ) → ¬ (other ≡ id) → g other ≡ f other)
    → map g ids ≡ set (map f ids) at (g id)
one_differs f g [] at id is once same = cc
one_differs f g (x ∷ ids) zero id is once same =
    let here : x ≡ id = cc in
    rw here (ap (λ ys. g id ∷ ys) (alike g f ids (all_weaker (λ other. ¬ (other ≡ id))
    (λ other. g other ≡ f other) same ids (apart id ids (λ i is. omega (arith, once (suc i) is))))))
one_differs f g (x ∷ ids) (suc at) id is once same =
    rw (same x (λ e. omega (arith, once 0 (ap Some e))))
    (ap (λ ys. f x ∷ ys)
    (one_differs f g ids at id is (λ i is. omega (arith, once (suc i) is)) same))

-- the entries of numbers that are there
module _ {V : Type 0} where
  abbrev pub Within : Entries V → List ℕ → Type 0
  Within es ids = AllByRecursion (λ id. id < length es) ids

  pub seen : (es : Entries V) (ids : List ℕ) → Within es ids
      → map Some (entries_at es ids) ≡ map (slice_get es) ids
  seen es [] all = refl
  seen es (id ∷ ids) all = map-append Some (take 1 (drop id es)) (entries_at es ids)
      ∙ ap (λ front. front ++ map Some (entries_at es ids)) (one es id all.0)
      ∙ ap (λ rest. slice_get es id ∷ rest) (seen es ids all.1)

  pub count : (es : Entries V) (ids : List ℕ) → Within es ids
      → length (entries_at es ids) ≡ length ids
  count es ids all = sym (length-map (entries_at es ids) Some) ∙ ap length (seen es ids all)
      ∙ length-map ids (slice_get es)

  -- the key of an entry that is there
  abbrev pub key_or : Option (List ℕ × V) → List ℕ
  key_or None = []
  key_or (Some e) = e.0

  key_at : (es : Entries V) (id : ℕ) → text_at (keys_of es) id ≡ key_or (slice_get es id)
  key_at [] id = refl
  key_at (e ∷ es) zero = refl
  key_at (e ∷ es) (suc id) = key_at es id

  pub keys_at : (es : Entries V) (ids : List ℕ)
      → map (text_at (keys_of es)) ids ≡ map key_or (map (slice_get es) ids)
  keys_at es [] = refl
  keys_at es (id ∷ ids) =
      ap (λ k. k ∷ map (text_at (keys_of es)) ids) (key_at es id)
      ∙ ap (λ ks. key_or (slice_get es id) ∷ ks) (keys_at es ids)

  -- their keys are the texts of the numbers
  pub keys_seen : (es : Entries V) (ids : List ℕ) → Within es ids
      → keys_of (entries_at es ids) ≡ map (text_at (keys_of es)) ids
  keys_seen es ids all = sym (map-map key_or Some (entries_at es ids))
      ∙ ap (map key_or) (seen es ids all) ∙ sym (keys_at es ids)

  -- the entry of a number is in its place among them
  pub entry_seen : (es : Entries V) (ids : List ℕ) (at id : ℕ) (e : List ℕ × V) → Within es ids
      → slice_get ids at ≡ Some id → slice_get (entries_at es ids) at ≡ Some e
      → slice_get es id ≡ Some e
  entry_seen es ids at id e all is there =
      let same = ap (λ xs. slice_get xs at) (seen es ids all) in
      let both : Some (Some e) ≡ Some (slice_get es id)
      = rw (slice_get-map, slice_get-map, there, is) at same in
      cc

  -- lists that have the same entries under their numbers in order are the same in that order
  pub same_entries : (es : Entries V) (ids : List ℕ) (other : Entries V) → Within es ids
      → map (slice_get es) ids ≡ map Some other → entries_at es ids ≡ other
  same_entries es ids other all same = all_some (entries_at es ids) other (seen es ids all ∙ same)

  -- with an entry more, under the next number
  pub with_entry : (es : Entries V) (ids : List ℕ) (at : ℕ) (e : List ℕ × V) → Within es ids
      → map (slice_get (es ++ e ∷ [])) (insert ids at (length es))
      ≡ map Some (insert (entries_at es ids) at e)
  with_entry es ids at e all = inserted_seen (slice_get (es ++ e ∷ [])) ids at (length es)
      ∙ ap (insert (map (slice_get (es ++ e ∷ [])) ids) at) (at_push es e)
      ∙ ap (λ xs. insert xs at (Some e)) (stay ∙ sym (seen es ids all))
      ∙ sym (inserted_seen Some (entries_at es ids) at e)
    where
      here : (i : ℕ) → i < length es → slice_get (es ++ e ∷ []) i ≡ slice_get es i
      here i less =
          let is = slice_get-get_or es i e less in
          before_append es (e ∷ []) i (get_or es i e) is ∙ sym is

      stay : map (slice_get (es ++ e ∷ [])) ids ≡ map (slice_get es) ids
      stay = alike (slice_get (es ++ e ∷ [])) (slice_get es) ids (all_weaker (λ i. i < length es)
          (λ i. slice_get (es ++ e ∷ []) i ≡ slice_get es i) here ids all)

-- a text that goes among others is none of them
pub not_among : (texts : List (List ℕ)) (text : List ℕ) (at i : ℕ) → IsGap texts text at
    → slice_get texts i ≡ Some text → ⊥
not_among texts text at i gap is =
    let read : get_or texts i [] ≡ text = get_or_from_slice_get texts i text [] is in
    let equal : key_order text (get_or texts i []) ≡ Equal
    = ap (key_order text) read ∙ tied_itself nat_list_cmp_total text in
    elim (cases_lt i at) [
      | inl before ↦ let more = gap.1 i before in cc
      | inr after ↦ let less = gap.2 i after (slice_get_within texts i text is) in cc
    ]

-- texts in order are at one index each
not_earlier : (texts : List (List ℕ)) (i j : ℕ) (text : List ℕ) → IsStrictlySortedBy key_order texts
    → slice_get texts i ≡ Some text → slice_get texts j ≡ Some text → ¬ (i < j)
not_earlier texts i j text sorted is js less =
    let read = λ (k : ℕ). get_or_from_slice_get texts k text [] in
    let below = rw (read i is, read j js)
    at (Less-from_sorted key_order texts i j [] sorted less (slice_get_within texts j text js)) in
    let equal = tied_itself nat_list_cmp_total text in
    cc

pub one_index : (texts : List (List ℕ)) (i j : ℕ) (text : List ℕ)
    → IsStrictlySortedBy key_order texts → slice_get texts i ≡ Some text
    → slice_get texts j ≡ Some text → i ≡ j
one_index texts i j text sorted is js = omega (
  arith,
  not_earlier texts i j text sorted is js,
  not_earlier texts j i text sorted js is,
)

-- so is a number whose text is
pub once : (text_of : ℕ → List ℕ) (ids : List ℕ) (at id : ℕ) → slice_get ids at ≡ Some id
    → IsStrictlySortedBy key_order (map text_of ids) → IsOnce ids at id
once text_of ids at id is sorted i also = one_index (map text_of ids) i at (text_of id) sorted
    (rw (slice_get-map, also) refl) (rw (slice_get-map, is) refl)

pub both : {X : Type 0} (P Q R : X → Type 0) → ((x : X) → P x → Q x → R x) → (xs : List X)
    → AllByRecursion P xs → AllByRecursion Q xs → AllByRecursion R xs
both P Q R step [] all also = tt
both P Q R step (x ∷ xs) all also = (step x all.0 also.0, both P Q R step xs all.1 also.1)

pub not_last : (n count : ℕ) → n < suc count → ¬ (n ≡ count) → n < count
not_last n count less not = elim (cases_lt n count) [
  | inl under ↦ under
  | inr over ↦ absurd (not (omega (arith, less, over)))
]

-- no entry, and no number
pub no_numbers : AreNumbers 0 []
no_numbers = record { within = tt; all = λ id less. absurd (omega (arith, less)); once = refl }

-- a number more
pub numbers_with : (count at : ℕ) (ids : List ℕ) → at ≤ length ids → AreNumbers count ids
    → AreNumbers (suc count) (insert ids at count)
numbers_with count at ids within are = record {
  within = all_insert (λ id. id < suc count) at ids count
      (all_weaker (λ id. id < count) (λ id. id < suc count) (λ id less. omega (arith, less)) ids
      are.within) (omega arith);
  all = λ id less. has_with ids at count id (elim (cases_lt id count) [
    | inl old ↦ inr (are.all id old)
    | inr new ↦ inl (omega (arith, less, new))
  ]);
  once = length-insert ids at count within ∙ rw are.once (omega arith);
}

-- numbers without one of them are the others
pub others_of : (count at id : ℕ) (ids : List ℕ) → slice_get ids at ≡ Some id → IsOnce ids at id
    → AreNumbers count ids → AreOthers count id (remove ids at)
others_of count at id ids is once are = record {
  within = all_append (λ other. other < count) (take at ids) (drop (suc at) ids)
      (all_take (λ other. other < count) at ids are.within)
      (all_drop (λ other. other < count) (suc at) ids are.within);
  apart = left_apart ids at id once;
  all = λ other less not. has_without ids at id other is not (are.all other less);
  once = length-remove ids at (slice_get_within ids at id is) ∙ are.once;
}

-- numbers with another one for the last
module _ (last id : ℕ) where
  abbrev pub renamed : ℕ → ℕ
  renamed other = cond (eqb other last) id other

  moved : renamed last ≡ id
  moved = grind (arith, nat_tests)

  kept : (other : ℕ) → ¬ (other ≡ last) → renamed other ≡ other
  kept other not = grind (arith, nat_tests, not)

  -- none changes that is not the last one
  pub none_renamed : (ids : List ℕ) → AllByRecursion (λ other. ¬ (other ≡ last)) ids
      → map renamed ids ≡ ids
  none_renamed ids apart = alike renamed (λ n. n) ids
      (all_weaker (λ n. ¬ (n ≡ last)) (λ n. renamed n ≡ n) kept ids apart) ∙ map-id ids

  pub is_renamed : (ids : List ℕ) (at : ℕ) → slice_get ids at ≡ Some last → IsOnce ids at last
      → set ids at id ≡ map renamed ids
  is_renamed ids at is once = sym (one_differs (λ n. n) renamed ids at last is once kept
      ∙ rw (moved, map-id) refl)

  -- the others of numbers, of which there was one more than `last`
  module _ (left : List ℕ) (are : AreOthers (suc last) id left) (within : id < suc last) where
    each : (P : ℕ → ℕ → Type 0) → (id < last → P last id)
        → ((other : ℕ) → other < last → ¬ (other ≡ id) → P other other)
        → AllByRecursion (λ other. P other (renamed other)) left
    each P moves stays = both (λ n. n < suc last) (λ n. ¬ (n ≡ id)) (λ n. P n (renamed n))
        (λ n less not. elim (cases_eq n last) [
          | inl same ↦ rw (same, moved) (moves (not_last id last within (λ e. not (same ∙ sym e))))
          | inr other ↦ rw (kept n other) (stays n (not_last n last less other) not)
        ]) left are.within are.apart

    pub renamed_seen : {Y : Type 0} (f g : ℕ → Y) → (id < last → f id ≡ g last)
        → ((other : ℕ) → other < last → ¬ (other ≡ id) → f other ≡ g other)
        → map f (map renamed left) ≡ map g left
    renamed_seen f g moved stays = map-map f renamed left
        ∙ alike (λ n. f (renamed n)) g left (each (λ n m. f m ≡ g n) moved stays)

    pub numbers_renamed : AreNumbers last (map renamed left)
    numbers_renamed = record {
      within = all_map (λ n. n < last) renamed left
          (each (λ n m. m < last) (λ less. less) (λ n less not. less));
      all = λ other less. elim (cases_eq other id) [
        | inl same ↦ subst (Has (map renamed left)) (moved ∙ sym same) (has_map renamed left last
            (are.all last (omega arith) (λ e. omega (arith, e, same, less))))
        | inr not ↦ subst (Has (map renamed left)) (kept other (λ e. omega (arith, e, less)))
            (has_map renamed left other (are.all other (omega (arith, less)) not))
      ];
      once = length-map left renamed ∙ (let one = are.once in omega (arith, one));
    }

-- a list without an element, of which the last one took its place
module _ {X : Type 0} (xs : List X) (i count : ℕ) (d : X) (all : length xs ≡ suc count) where
  abbrev swapped : List X
  swapped = swap_remove xs i d

  pub swapped_length : length swapped ≡ count
  swapped_length = length-take-le (length xs - 1) (set xs i (get_or xs (length xs - 1) d))
      (rw length-set (omega (arith, all))) ∙ omega (arith, all)

  pub swapped_stays : (j : ℕ) → j < count → ¬ (j ≡ i) → slice_get swapped j ≡ slice_get xs j
  swapped_stays j less not = grind (arith, common_steps, gets, not, all)

  pub swapped_moves : i < count → slice_get swapped i ≡ slice_get xs count
  swapped_moves less = grind (arith, common_steps, gets, all)

pub swapped_seen : {A B : Type 0} (f : A → B) (xs : List A) (i : ℕ) (d : A)
    → map f (swap_remove xs i d) ≡ swap_remove (map f xs) i (f d)
swapped_seen f xs i d = sym (take-map f (length xs - 1) (set xs i (get_or xs (length xs - 1) d)))
    ∙ ap (take (length xs - 1)) (map-set f xs i (get_or xs (length xs - 1) d)
    ∙ ap (set (map f xs) i) (sym (get_or-map f xs (length xs - 1) d)))
    ∙ ap (λ n. take (n - 1) (set (map f xs) i (get_or (map f xs) (n - 1) (f d))))
    (sym (length-map xs f))
