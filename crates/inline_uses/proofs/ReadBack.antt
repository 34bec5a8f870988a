-- Nodes that are read from members one by one: keys lead to them as they lead into the JSON.
use Rattle.inline_uses.proofs.TreeNames.{Data, Equal, Err, Fault, Global, Greater, HaveSamePaths, IfOk, IsPlaceOf, IsReadable, IsShown, IsStrictlySortedBy, IsTree, IsUtf8, Leads, Less, List, Members, Node, None, Ok, Option, Ordering, Result, Some, String, Value, [], ap, arith, bytes_of, chars, encodes-chars, exact_bytes, get, get_member, inl, inr, key_order, keys_of, length, listed, listed_members, map, match_ordering, member, members_view, nat_list_cmp_total, node_at, object, refl, slice_get, slice_get_within, sorted_head, sorted_tail, string_bytes, subst, suc, sym, tied_itself, view, ℕ, ◌++◌, ◌-◌, ◌<◌, ◌∙◌, ◌∷◌, ◌≡◌, ◌≤◌, ◌⊎◌}
use Rattle.inline_uses.proofs.Listed.{IsUnderLate, absent, all_late, in_steps, one_more, string_order, with_member}
use Rattle.inline_uses.proofs.Readable.{Decide, all_decide, one_read}
use Rattle.inline_uses.proofs.Shown.{IsShownAt, same_or_other}
use Rattle.inline_uses.proofs.Tables.{at_seam, before_append, from_seam}
use Rattle.inline_uses.proofs.Trees.{wider}
use Rattle.inline_uses.proofs.Under.{next_of}

-- what the value has under a key is shown, or left, and then no node has the key
abbrev pub IsReadAt : List Node → Option ℕ → List ℕ → Option Data → Option Data → Type 0
IsReadAt nodes place key has None = IsShownAt nodes place key ⊥ has
IsReadAt nodes place key has (Some d) = (has ≡ Some d) × IsShownAt nodes place key ⊥ None

abbrev pub IsReadBut : List Node → Option ℕ → Data → Members → Type 0
IsReadBut nodes place d left =
    (key : List ℕ) → IsUtf8 key → IsReadAt nodes place key (get key d) (get_member key left)

pub none_read : (nodes : List Node) (place : Option ℕ) (ms : Members)
    → ((id : ℕ) (key : List ℕ) → ¬ (slice_get nodes id ≡ Some (node_at place key)))
    → IsReadBut nodes place (object ms) ms
none_read nodes place ms free key utf8 = by (get_member key ms)
  where
    by : (o : Option Data) → IsReadAt nodes place key o o
    by None = λ id. free id (chars key)
    by (Some d) = (refl, λ id. free id (chars key))

other_key : {A : Type 0} (o : Ordering) (a b : A) → ¬ (o ≡ Equal) → match_ordering o a b a ≡ a
other_key Less a b not = refl
other_key Equal a b not = absurd (not refl)
other_key Greater a b not = refl

-- the next of the members that are left
next_member : (key : List ℕ) (d : Data) (rest : Members)
    → get_member key (member key d rest) ≡ Some d
next_member key d rest = rw (tied_itself nat_list_cmp_total key) refl

-- the key of the next member is not taken
pub not_taken : (nodes : List Node) (place : Option ℕ) (key : List ℕ) (d e : Data) (rest : Members)
    → IsUtf8 key → IsReadBut nodes place d (member key e rest) → (id : ℕ)
    → ¬ (slice_get nodes id ≡ Some (node_at place (chars key)))
not_taken nodes place key d e rest utf8 read = (rw (next_member key e rest) at (read key utf8)).1

-- the nodes with one more, and then those of its value
module _ (nodes : List Node) (place : Option ℕ) (k : List ℕ) (e : Data) (tree : IsTree nodes)
    (within : IsPlaceOf nodes place)
  where
    abbrev new : List Node
    new = with_member nodes place k e

    -- a node under a place that there was is an old one, or the one more
    only : (id : ℕ) (node : Node) → IsPlaceOf nodes node.parent → slice_get new id ≡ Some node
        → (slice_get nodes id ≡ Some node)
        ⊎ ((id ≡ length nodes) × (node_at place (chars k) ≡ node))
    only id node under = from_seam (IsUnderLate (length nodes)) nodes _ _ id node
        (all_late (length nodes) (suc (length nodes)) (length nodes) e (omega arith) (omega arith))
        (λ (q, is, late). let less : q < length nodes = subst (IsPlaceOf nodes) is under in
        omega (arith, less, late))

    -- keys lead on from an old node after the place as they did
    up : (p : Option ℕ) (keys : List (List ℕ)) (to : ℕ) → Leads nodes p keys to
        → Leads new p keys to
    up p [] to leads = leads
    up p (key ∷ keys) to (id, here, leads) =
        (id, before_append nodes _ id _ here, up (Some id) keys to leads)

    down : (p : ℕ) (keys : List (List ℕ)) (to : ℕ) → p < length nodes → next_of place ≤ p
        → Leads new (Some p) keys to → Leads nodes (Some p) keys to
    down p [] to less after leads = leads
    down p (key ∷ keys) to less after (id, here, leads) =
        elim (only id (node_at (Some p) key) less here) [
          | inl is ↦ let later : p < id = tree.later id p key is in
              (id, is, down id keys to (slice_get_within nodes id _ is) (omega arith) leads)
          | inr last ↦ let late : next_of (Some p) ≤ p
              = subst (λ (n : Node). next_of n.parent ≤ p) last.1 after in
              absurd (omega (arith, late))
        ]

    after_place : (q : Option ℕ) (id : ℕ) (key : List ℕ) → slice_get nodes id ≡ Some (node_at q key)
        → next_of q ≤ id
    after_place None id key is = omega arith
    after_place (Some p) id key is = let later : p < id = tree.later id p key is in omega arith

    -- what is shown at another key still is
    still : (key : List ℕ) → ¬ (chars k ≡ chars key) → (o : Option Data)
        → IsShownAt nodes place key ⊥ o → IsShownAt new place key ⊥ o
    still key differs = by
      where
        old : (id : ℕ) → slice_get new id ≡ Some (node_at place (chars key))
            → slice_get nodes id ≡ Some (node_at place (chars key))
        old id here = elim (only id _ within here) [
          | inl is ↦ is
          | inr last ↦ absurd (differs (ap (λ (n : Node). n.key) last.1))
        ]

        by : (o : Option Data) → IsShownAt nodes place key ⊥ o → IsShownAt new place key ⊥ o
        by None none = λ id here. none id (old id here)
        by (Some d) ((id, is), shown) = (
          (id, before_append nodes _ id _ is),
          λ i here l ls utf8 all.
              let was = old i here in
              let (down_to, up_to) = shown i was l ls utf8 all in
              let keys = map chars (l ∷ ls) in
              let within = slice_get_within nodes i _ was in (
                (λ some. let (to, leads) = down_to some in (to, up (Some i) keys to leads)),
                λ (to, leads). up_to (to, down i keys to within (after_place place i _ was) leads),
              ),
        )

    pub read_one : (d : Data) (rest : Members) → bytes_of (chars k) ≡ k → get_member k rest ≡ None
        → IsShown new (Some (length nodes)) e → IsReadBut nodes place d (member k e rest)
        → IsReadBut new place d rest
    read_one d rest bytes last shown read key utf8 = elim (same_or_other key k) [
      | inl same ↦
          let was = rw (next_member k e rest) at (read k (rw same at utf8)) in
          rw (same, last, was.0) (
            (length nodes, at_seam nodes (node_at place (chars k)) _),
            λ id here. elim (only id _ within here) [
              | inl taken ↦ absurd (was.1 id taken)
              | inr own ↦ subst (λ i. IsShown new (Some i) e) (sym own.0) shown
            ],
          )
      | inr differs ↦
          let passed : get_member key (member k e rest) ≡ get_member key rest
          = other_key (key_order key k) (get_member key rest) (Some e)
          (λ tied. differs (exact_bytes key k tied)) in
          by (λ same. differs (sym (encodes-chars key utf8) ∙ ap bytes_of (sym same) ∙ bytes))
          (get_member key rest) (rw passed at (read key utf8))
    ]
      where
        by : ¬ (chars k ≡ chars key) → (o : Option Data)
            → IsReadAt nodes place key (get key d) o → IsReadAt new place key (get key d) o
        by differs None is = still key differs (get key d) is
        by differs (Some v) (is, none) = (is, still key differs None none)

-- of the members of a value the nodes have some, and get the others, which are left
pub record AreAdded (old nodes : List Node) (place : Option ℕ) (levels : ℕ) (d : Data)
    (left : List (String Global × Value)) : Type 0 where
  pub within : IsPlaceOf nodes place
  pub decide : Decide levels d (members_view left)
  pub adds : nodes ++ listed_members (length nodes) place (members_view left)
      ≡ old ++ listed (length old) place d
  pub ordered : IsStrictlySortedBy string_order (keys_of left)
  pub read : IsReadBut nodes place d (members_view left)

pub none_added : (nodes : List Node) (place : Option ℕ) (levels : ℕ) (d : Data)
    → (es left : List (String Global × Value)) → d ≡ object (members_view es) → left ≡ es
    → IsPlaceOf nodes place
    → ((id : ℕ) (key : List ℕ) → ¬ (slice_get nodes id ≡ Some (node_at place key)))
    → IsStrictlySortedBy string_order (keys_of es) → AreAdded nodes nodes place levels d left
none_added nodes place levels d es left is all within free ordered = rw (is, all) (record {
  within = within;
  decide = all_decide levels _;
  adds = refl;
  ordered = ordered;
  read = none_read nodes place _ free;
})

-- a member is added in two steps
pub one_added : {old nodes : List Node} {place : Option ℕ} {levels : ℕ} {d : Data}
    {key : String Global} {v : Value} {left : List (String Global × Value)}
    → AreAdded old nodes place levels d ((key, v) ∷ left) → IsTree nodes
    → length (string_bytes key) ≤ 16 → bytes_of (chars (string_bytes key)) ≡ string_bytes key
    → (new after : List Node) (k : List ℕ) (n : ℕ) → new ≡ nodes ++ node_at place (chars k) ∷ []
    → k ≡ string_bytes key → n ≡ length nodes → after ≡ new ++ listed (length new) (Some n) (view v)
    → IsShown after (Some n) (view v) → IsReadable (levels - 1) (view v) → 0 < levels
    → AreAdded old after place levels d left
one_added {old} {nodes} {place} {levels} {d} {key} {v} {left} was tree short bytes new after k n
    is_new same count is_after shown readable some =
    let all = in_steps nodes new after place k (string_bytes key) (view v) n is_new same count
    is_after in
    let last = absent key left (sorted_head string_order _ _ was.ordered) in
    let shown = subst (λ ns. IsShown ns (Some (length nodes)) (view v)) all
    (subst (λ i. IsShown after (Some i) (view v)) count shown) in
    rw all (record {
      within = wider nodes _ place was.within;
      decide = one_read levels d (string_bytes key) (view v) (members_view left) was.decide short
          readable some;
      adds = one_more nodes place (string_bytes key) (view v) (members_view left) ∙ was.adds;
      ordered = sorted_tail string_order _ _ was.ordered;
      read = read_one nodes place (string_bytes key) (view v) tree was.within d (members_view left)
          bytes last shown was.read;
    })

-- two lists of nodes that one value shows
pub shown_again : (nodes : List Node) (d : Data) (result : Result (List Node) Fault)
    → IsShown nodes None d → IfOk result (λ others. IsShown others None d)
    → IfOk result (λ others. HaveSamePaths nodes others)
shown_again nodes d (Ok others) shown is = λ key keys utf8 all.
    let s = shown key keys utf8 all in
    let t = is key keys utf8 all in
    ((λ leads. t.0 (s.1 leads)), λ leads. s.0 (t.1 leads))
shown_again nodes d (Err fault) shown is = tt
