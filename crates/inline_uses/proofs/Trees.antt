-- A tree with one more node at the end of its list.
use Rattle.inline_uses.proofs.TreeNames.{AreFound, BTreeMap, Bor, Decides, Equal, Equal-is, IsPlaceOf, IsSome, IsTree, Leads, List, Node, None, Option, Some, [], ap, arith, bytes_of, chars, cond, exact_bytes, exact_pairs, fold, inl, inr, is_at, is_eq, length, length-append, lookup, nat_cmp, node_at, option_cmp, ordering_then, place_order, place_order_total, ranked, refl, rules, size, slice_cmp, slice_get, slice_get_within, subst, sym, tied_itself, true, value_at, ℕ, ◌++◌, ◌<◌, ◌↔◌, ◌∷◌, ◌≡◌, ◌≤◌}
use Rattle.inline_uses.proofs.Tables.{found_pushed, from_push, one_id_pushed}

pub grown : (nodes : List Node) (place : Option ℕ) (key : List ℕ) → IsTree nodes
    → IsPlaceOf nodes place → ((id : ℕ) → ¬ (slice_get nodes id ≡ Some (node_at place key)))
    → size key ≤ 16 → IsTree (nodes ++ node_at place key ∷ [])
grown nodes place key tree has none short = record {
  once = one_id_pushed nodes (node_at place key) none tree.once;
  later = λ id parent k is. elim (from_push nodes (node_at (Some parent) k) _ id is) [
    | inl old ↦ tree.later id parent k old
    | inr new ↦ let here : parent < length nodes
        = subst (λ (node : Node). IsPlaceOf nodes node.parent) new.1 has in
        rw new.0 here
  ];
  short = λ id node is. elim (from_push nodes node _ id is) [
    | inl old ↦ tree.short id node old
    | inr new ↦ subst (λ (node : Node). size node.key ≤ 16) new.1 short
  ];
}

same_place : (p q : Option ℕ) → option_cmp nat_cmp p q ≡ Equal → p ≡ q
same_place None None e = refl
same_place None (Some y) e = cc
same_place (Some x) None e = cc
same_place (Some x) (Some y) e = ap Some (ranked x y Equal (sym e))

-- places with bytes that compare equal are the same
pub exact_places : (p q : Option ℕ) (b c : List ℕ)
    → is_eq (ordering_then (option_cmp nat_cmp p q) (slice_cmp nat_cmp b c)) ≡ true
    → ◌≡◌ {A = Option ℕ × List ℕ} (p, b) (q, c)
exact_places p q b c e = exact_pairs (option_cmp nat_cmp) (slice_cmp nat_cmp) same_place exact_bytes
    (p, b) (q, c) ((Equal-is _).0 e)

-- by the order, two keys with their places are the same or not
same_key : (p q : Option ℕ) (k l : List ℕ) → chars (bytes_of k) ≡ k → chars (bytes_of l) ≡ l
    → Decides (is_eq (place_order (p, k) (q, l))) (node_at p k ≡ node_at q l)
same_key p q k l text other = (
  (λ e. let same = exact_places p q (bytes_of k) (bytes_of l) e in
      rw (text, other) at (ap (λ (x : Option ℕ × List ℕ). node_at x.0 (chars x.1)) same)),
  λ e. subst (λ (node : Node). is_eq (place_order (p, k) (node.parent, node.key)) ≡ true) e
      (ap is_eq (tied_itself place_order_total (p, k))),
)

-- a node that is not there is found once it is put in
pub found : (nodes : List Node) (parent : Option ℕ) (key : List ℕ)
    → (old new : BTreeMap (Option ℕ × List ℕ) ℕ) (n : ℕ) → n ≡ length nodes
    → ((id : ℕ) → ¬ (slice_get nodes id ≡ Some (node_at parent key)))
    → chars (bytes_of key) ≡ key → AreFound nodes old
    → ((q : Option ℕ × List ℕ) → value_at place_order new q
    ≡ cond (is_eq (place_order (parent, key) q)) (Some n) (value_at place_order old q))
    → AreFound (nodes ++ node_at parent key ∷ []) new
found nodes parent key old new n count none text was sets place k id is_text =
    rw (sets (place, k), count) (found_pushed nodes (node_at parent key) (node_at place k)
    (is_eq (place_order (parent, key) (place, k))) (value_at place_order old (place, k)) id none
    (same_key parent place key k text is_text) (was place k id is_text))

-- what finds a node is the map's entries alone
pub found_in : (nodes : List Node) (ids : BTreeMap (Option ℕ × List ℕ) ℕ)
    → (es : List ((Option ℕ × List ℕ) × ℕ)) → ids.entries ≡ es → AreFound nodes ids
    → (place : Option ℕ) (key : List ℕ) (id : ℕ) → chars (bytes_of key) ≡ key
    → (lookup (is_at (place_order (place, key))) es ≡ Some id)
    ↔ (slice_get nodes id ≡ Some (node_at place key))
found_in nodes ids es same found = rw (← same) found

-- a key that the map has not is of no node, and one that it has is of a node
module _ (nodes : List Node) (place : Option ℕ) (key : List ℕ)
    (ids : BTreeMap (Option ℕ × List ℕ) ℕ) (found : AreFound nodes ids)
    (text : chars (bytes_of key) ≡ key)
  where
    pub no_node : value_at place_order ids (place, key) ≡ None → (id : ℕ)
        → ¬ (slice_get nodes id ≡ Some (node_at place key))
    no_node none id is =
        let some : value_at place_order ids (place, key) ≡ Some id
        = (found place key id text).1 is in cc

    pub some_node : IsSome (value_at place_order ids (place, key))
        → (id : ℕ) × (slice_get nodes id ≡ Some (node_at place key))
    some_node some = by (value_at place_order ids (place, key)) refl some
      where
        by : (o : Option ℕ) → value_at place_order ids (place, key) ≡ o → IsSome o
            → (id : ℕ) × (slice_get nodes id ≡ Some (node_at place key))
        by None is h = cc
        by (Some id) is h = (id, (found place key id text).0 is)

-- what a node is under is a place
pub is_place : (nodes : List Node) (place : Option ℕ) (key : List ℕ) (id : ℕ) → IsTree nodes
    → slice_get nodes id ≡ Some (node_at place key) → IsPlaceOf nodes place
is_place nodes None key id tree is = search rules
is_place nodes (Some p) key id tree is =
    let earlier : p < id = tree.later id p key is in
    let within : id < length nodes = slice_get_within nodes id (node_at (Some p) key) is in
    omega (arith, earlier, within)

-- the keys from a place down, with the key of the node at the place before them
pub above : (nodes : List Node) (at id : ℕ) (node : Node) (keys : List (List ℕ)) → IsTree nodes
    → slice_get nodes at ≡ Some node → Leads nodes (Some at) keys id
    → IsPlaceOf nodes node.parent × Leads nodes node.parent (node.key ∷ keys) id
above nodes at id node keys tree is leads =
    (is_place nodes node.parent node.key at tree is, (at, is, leads))

-- the keys of nodes, that of the last first
abbrev pub keys_up : List (Bor Node) → List (List ℕ)
keys_up nodes = fold (λ keys (node : Bor Node). node.now.key ∷ keys) [] nodes

pub wider : (nodes more : List Node) (place : Option ℕ) → IsPlaceOf nodes place
    → IsPlaceOf (nodes ++ more) place
wider nodes more None h = h
wider nodes more (Some id) h = rw length-append (omega arith)
