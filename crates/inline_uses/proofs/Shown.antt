-- The JSON object of a place, of whose nodes some have been shown, and others are left.
use Rattle.inline_uses.proofs.TreeNames.{All, AllByRecursion, AreFound, BTreeMap, Bound, Data, Fault, IsEntryInRange, IsReadable, IsShown, IsSome, IsTree, IsUtf8, Leads, List, Members, NoMemory, Node, None, Option, Some, TooDeep, [], ap, arith, bytes_decides, bytes_of, cases_Bool, chars, encodes-chars, entries_between, get, get_member, get_member-put, get_member-put_other, inl, inr, length, map, nat_eq, no_members, node_at, not_from_Decides, object, option_and_then, place_order, pointwise, put, refl, rules, slice_get, subst, suc, sym, ◌-◌, ◌<◌, walk, ℕ, ◌↔◌, ◌∷◌, ◌≡◌, ◌≤◌, ◌⊎◌}
use Rattle.inline_uses.proofs.Readable.{AreReadable, readable_put}
use Rattle.inline_uses.proofs.Under.{AreUnder, Entry, IsLeft, all_under, end_key, first_key, found_left, under}

pub same_or_other : (key k : List ℕ) → (key ≡ k) ⊎ ¬ (key ≡ k)
same_or_other key k = elim (cases_Bool (pointwise nat_eq key k)) [
  | inl same ↦ inl ((bytes_decides key k).0 same)
  | inr other ↦ inr (not_from_Decides _ (bytes_decides key k) other)
]

-- a value under a key shows the node with the key, and without one there is no node, unless `left`
abbrev pub IsShownAt : List Node → Option ℕ → List ℕ → Type 0 → Option Data → Type 0
IsShownAt nodes place key left None =
    (id : ℕ) → slice_get nodes id ≡ Some (node_at place (chars key)) → left
IsShownAt nodes place key left (Some d) =
    ((id : ℕ) × (slice_get nodes id ≡ Some (node_at place (chars key))))
    × ((id : ℕ) → slice_get nodes id ≡ Some (node_at place (chars key)) → IsShown nodes (Some id) d)

-- the value shows the nodes under the place, except those whose keys are left
abbrev pub IsShownBut : List Node → Option ℕ → Data → List Entry → Type 0
IsShownBut nodes place d left =
    (key : List ℕ) → IsUtf8 key → IsShownAt nodes place key (IsLeft left key) (get key d)

pub none_shown : (nodes : List Node) (place : Option ℕ) (ids : BTreeMap (Option ℕ × List ℕ) ℕ)
    → AreFound nodes ids → IsShownBut nodes place (object no_members) (under place ids.entries)
none_shown nodes place ids found key utf8 id here =
    let bytes = encodes-chars key utf8 in
    found_left place key ids.entries id bytes ((found place (chars key) id (ap chars bytes)).1 here)

-- after the key of a node that the value shows
same_below : (nodes : List Node) (n : ℕ) (v : Data) → IsShown nodes (Some n) v
    → (keys : List (List ℕ)) → AllByRecursion IsUtf8 keys
    → IsSome (walk v keys) ↔ ((to : ℕ) × Leads nodes (Some n) (map chars keys) to)
same_below nodes n v inner [] all = ((λ _. (n, refl)), λ _. refl)
same_below nodes n v inner (key ∷ keys) all = inner key keys all.0 all.1

-- what holds at each key holds of keys that lead on from it
pub all_shown : (nodes : List Node) (place : Option ℕ) (d : Data) → IsShownBut nodes place d []
    → IsShown nodes place d
all_shown nodes place d shown key keys utf8 all = by (get key d) (shown key utf8)
  where
    by : (o : Option Data) → IsShownAt nodes place key ⊥ o
        → IsSome (option_and_then (λ e. walk e keys) o)
        ↔ ((to : ℕ) × Leads nodes place (map chars (key ∷ keys)) to)
    by None none = ((λ some. cc), λ (to, (id, here, _)). absurd (none id here))
    by (Some v) ((n, is), inner) = (
      (λ some. let (to, leads) = (same_below nodes n v (inner n is) keys all).0 some in
          (to, (n, is, leads))),
      λ (to, (id, here, leads)). (same_below nodes id v (inner id here) keys all).1 (to, leads),
    )

-- a node n that is under the place is shown as the member k
pub put_in : (nodes : List Node) (place p : Option ℕ) (n : ℕ) (k : List ℕ) (v : Data) (ms : Members)
    → (left : List Entry) → IsTree nodes → slice_get nodes n ≡ Some (node_at place k)
    → chars (bytes_of k) ≡ k → IsShown nodes (Some n) v
    → IsShownBut nodes place (object ms) (((p, k), n) ∷ left)
    → IsShownBut nodes place (object (put (bytes_of k) v ms)) left
put_in nodes place p n k v ms left tree is text inner outer key utf8 =
    elim (same_or_other key (bytes_of k)) [
      | inl same ↦
          let named : slice_get nodes n ≡ Some (node_at place (chars (bytes_of k))) = rw text is in
          rw (same, get_member-put (bytes_of k) v ms) (
            (n, named),
            λ id here.
                subst (λ i. IsShown nodes (Some i) v) (tree.once n id _ named here) inner,
          )
      | inr differs ↦ rw (get_member-put_other key (bytes_of k) v ms differs)
          (by differs (get_member key ms) (outer key utf8))
    ]
  where
    by : ¬ (key ≡ bytes_of k) → (o : Option Data)
        → IsShownAt nodes place key (IsLeft (((p, k), n) ∷ left) key) o
        → IsShownAt nodes place key (IsLeft left key) o
    by differs None none = λ id here. elim (none id here) [
      | inl own ↦ absurd (differs (sym own))
      | inr later ↦ later
    ]
    by differs (Some w) shown = shown

-- the members are those of a place, except for the nodes of the entries that are left
pub record AreMembersBut (nodes : List Node) (place : Option ℕ) (below : ℕ) (ms : Members)
    (left : List Entry) : Type 0 where
  pub shown : IsShownBut nodes place (object ms) left
  pub under : AreUnder nodes place left
  pub readable : AreReadable below ms

-- those of a range from the first key of the place up to the one past the last
pub no_member : (nodes : List Node) (place : Option ℕ) (below : ℕ)
    → (ids : BTreeMap (Option ℕ × List ℕ) ℕ) (a b : Bound (Option ℕ × List ℕ)) (es : List Entry)
    → AreFound nodes ids → a ≡ first_key place → b ≡ end_key place
    → es ≡ entries_between place_order a b ids.entries
    → All (IsEntryInRange place_order a b ids) es → AreMembersBut nodes place below no_members es
no_member nodes place below ids a b es found first end between inside = record {
  shown = rw (between, first, end) (none_shown nodes place ids found);
  under = all_under nodes place ids es found (rw (first, end) at inside);
  readable = search rules;
}

pub member_put : {nodes : List Node} {place p : Option ℕ} {below n : ℕ} {k : List ℕ} {ms : Members}
    {left : List Entry} → AreMembersBut nodes place below ms (((p, k), n) ∷ left) → (v : Data)
    → IsTree nodes → chars (bytes_of k) ≡ k → IsShown nodes (Some n) v
    → IsReadable (suc (below - 1)) v → 0 < below
    → AreMembersBut nodes place below (put (bytes_of k) v ms) left
member_put {nodes} {place} {p} {below} {n} {k} {ms} {left} was v tree text shown deep some =
    let is = was.under.0 text in
    let readable = subst (λ levels. IsReadable levels v) (omega (arith, some)) deep in
    record {
      shown = put_in nodes place p n k v ms left tree is text shown was.shown;
      under = was.under.1;
      readable = readable_put below (bytes_of k) v ms (tree.short n _ is) readable was.readable;
    }

pub members_shown : {nodes : List Node} {place : Option ℕ} {below : ℕ} {ms : Members}
    {left : List Entry} → AreMembersBut nodes place below ms left → left ≡ []
    → IsShown nodes place (object ms)
members_shown {nodes} {place} {below} {ms} was end = all_shown nodes place (object ms)
    (subst (IsShownBut nodes place (object ms)) end was.shown)

-- a fault of memory, or that at least `levels` keys lead down from the place
abbrev pub IsTooDeep : List Node → Option ℕ → ℕ → Fault → Type 0
IsTooDeep nodes place levels f = (f ≡ NoMemory) ⊎ ((f ≡ TooDeep)
    × ((keys : List (List ℕ)) × (to : ℕ) × Leads nodes place keys to × (levels ≤ length keys)))

pub deeper : (nodes : List Node) (place : Option ℕ) (key : List ℕ) (id m n : ℕ) (f : Fault)
    → slice_get nodes id ≡ Some (node_at place key) → n ≤ suc m → IsTooDeep nodes (Some id) m f
    → IsTooDeep nodes place n f
deeper nodes place key id m n f is le (inl e) = inl e
deeper nodes place key id m n f is le (inr (e, (keys, to, leads, deep))) =
    inr (e, (key ∷ keys, to, (id, is, leads), omega (arith, deep, le)))
