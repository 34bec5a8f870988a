-- The part of what finds a tree's nodes that has those under one place.
use Rattle.inline_uses.proofs.TreeNames.{All, All-weaker, AllByRecursion, AreFound, BTreeMap, Bound, Equal, Excluded, Greater, Included, IsEntryInRange, IsInRange, Less, List, Node, None, Option, Ordering, Some, [], ap, arith, bytes_of, chars, entries_between, false, inl, inr, is_at, is_gt, is_le, lookup, lookup-filter-keys, nat_cmp, nat_cmp_is, nat_cmp_total, nat_tests, node_at, option_cmp, option_map, options_total, ordering_then, place_from_lookup, place_order, range_contains, ranked, recursion_from_All, refl, slice_cmp, slice_get, subst, suc, sym, tied_itself, true, unwrap_or, zero, ℕ, ◌<◌, ◌∙◌, ◌∷◌, ◌≡◌, ◌⊎◌}
use Rattle.inline_uses.proofs.Trees.{exact_places}

abbrev pub Entry : Type 0
Entry = (Option ℕ × List ℕ) × ℕ

-- the number of the place after another
abbrev pub next_of : Option ℕ → ℕ
next_of place = unwrap_or (option_map suc place) 0

-- from the least key under the place up to the least key under the place after it
abbrev pub first_key : Option ℕ → Bound (Option ℕ × List ℕ)
first_key place = Included (place, [])

abbrev pub end_key : Option ℕ → Bound (Option ℕ × List ℕ)
end_key place = Excluded (Some (next_of place), [])

abbrev pub under : Option ℕ → List Entry → List Entry
under place es = entries_between place_order (first_key place) (end_key place) es

-- a node under the place with this key is among the entries
abbrev pub IsLeft : List Entry → List ℕ → Type 0
IsLeft [] key = ⊥
IsLeft (e ∷ es) key = (bytes_of e.0.1 ≡ key) ⊎ IsLeft es key

-- the entries are of nodes under the place
abbrev pub IsUnder : List Node → Option ℕ → Entry → Type 0
IsUnder nodes place e =
    chars (bytes_of e.0.1) ≡ e.0.1 → slice_get nodes e.1 ≡ Some (node_at place e.0.1)

abbrev pub AreUnder : List Node → Option ℕ → List Entry → Type 0
AreUnder nodes place es = AllByRecursion (IsUnder nodes place) es

place_after : (place : Option ℕ) → option_cmp nat_cmp (Some (next_of place)) place ≡ Greater
place_after None = refl
place_after (Some q) = sym (nat_cmp_is (suc q) q Greater (omega arith))

-- no key is below the empty one
least : (bs : List ℕ)
    → (is_le (slice_cmp nat_cmp [] bs) ≡ true) × ¬ (slice_cmp nat_cmp bs [] ≡ Less)
least [] = (refl, λ e. cc)
least (b ∷ bs) = (refl, λ e. cc)

-- the keys of a place are in its range
contained : (place p : Option ℕ) (k : List ℕ) → place ≡ p
    → range_contains place_order (first_key place) (end_key place) (p, k) ≡ true
contained place p k e = rw (
  ← e,
  tied_itself (options_total nat_cmp_total) place,
  place_after place,
  (least (bytes_of k)).0,
) refl

-- and no others
in_place : (place p : Option ℕ) (k : List ℕ)
    → IsInRange place_order (first_key place) (end_key place) (p, k) → p ≡ place
in_place None None k h = refl
in_place None (Some x) k h =
    let o = (least (bytes_of k)).1 in absurd (grind (arith, nat_tests, o))
in_place (Some q) None k h = let e : true ≡ false = h.0 in cc
in_place (Some q) (Some x) k h =
    let o = (least (bytes_of k)).1 in
    let same : x ≡ q = grind (arith, nat_tests, o) in
    ap Some same

pub all_under : (nodes : List Node) (place : Option ℕ) (ids : BTreeMap (Option ℕ × List ℕ) ℕ)
    → (es : List Entry) → AreFound nodes ids
    → All (IsEntryInRange place_order (first_key place) (end_key place) ids) es
    → AreUnder nodes place es
all_under nodes place ids es found all = recursion_from_All (IsUnder nodes place) es
    (All-weaker (IsEntryInRange place_order (first_key place) (end_key place) ids)
    (IsUnder nodes place) (λ e here text.
    subst (λ p. slice_get nodes e.1 ≡ Some (node_at p e.0.1)) (in_place place e.0.0 e.0.1 here.0)
    ((found e.0.0 e.0.1 e.1 text).0 here.1)) es all)

left_at : (es : List Entry) (i : ℕ) (e : Entry) (key : List ℕ) → slice_get es i ≡ Some e
    → bytes_of e.0.1 ≡ key → IsLeft es key
left_at [] i e key is same = cc
left_at (x ∷ es) zero e key is same = let here : x ≡ e = cc in inl (rw here same)
left_at (x ∷ es) (suc i) e key is same = inr (left_at es i e key is same)

-- a key that is found under the place is left at the start
pub found_left : (place : Option ℕ) (key : List ℕ) (es : List Entry) (id : ℕ)
    → bytes_of (chars key) ≡ key → lookup (is_at (place_order (place, chars key))) es ≡ Some id
    → IsLeft (under place es) key
found_left place key es id bytes is =
    let test = is_at (place_order (place, chars key)) in
    let same = λ (q : Option ℕ × List ℕ) (e : test q ≡ true).
    exact_places place q.0 (bytes_of (chars key)) (bytes_of q.1) e in
    let kept = lookup-filter-keys test
    (range_contains place_order (first_key place) (end_key place)) true
    (λ q e. contained place q.0 q.1 (ap (λ (x : Option ℕ × List ℕ). x.0) (same q e))) es in
    let (i, q, here, e) = place_from_lookup test (under place es) id (kept ∙ is) in
    left_at (under place es) i (q, id) key here
    (sym (ap (λ (x : Option ℕ × List ℕ). x.1) (same q e)) ∙ bytes)
