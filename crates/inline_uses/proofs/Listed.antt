-- The nodes that the members of a JSON object add to a tree.
use Rattle.inline_uses.proofs.TreeNames.{All, All-append, All-cons, All-nil, AllByRecursion, Data, Global, IsPlaceOf, IsTree, Less, List, Members, Node, None, Option, Ordering, Some, String, Value, [], ap, append_assoc, arith, chars, get_member, inl, inr, keys_of, length, length-append, listed, listed_members, member, members_view, nat_cmp, no_members, node_at, object, refl, slice_cmp, slice_get, slice_get_within, string_bytes, subst, suc, ℕ, ◌++◌, ◌+◌, ◌<◌, ◌∷◌, ◌≡◌, ◌≤◌}
use Rattle.inline_uses.proofs.Tables.{from_push}

-- the node is under the n-th, or under one after that
abbrev pub IsUnderLate : ℕ → Node → Type 0
IsUnderLate n node = (p : ℕ) × (node.parent ≡ Some p) × (n ≤ p)

mutual
  pub all_late : (m n p : ℕ) (d : Data) → m ≤ n → m ≤ p
      → All (IsUnderLate m) (listed n (Some p) d)
  all_late m n p (object ms) h k = members_late m n p ms h k
  all_late m n p d h k = All-nil _

  members_late : (m n p : ℕ) (ms : Members) → m ≤ n → m ≤ p
      → All (IsUnderLate m) (listed_members n (Some p) ms)
  members_late m n p no_members h k = All-nil _
  members_late m n p (member key d ms) h k =
      let own = listed (suc n) (Some n) d in
      All-cons (IsUnderLate m) (node_at (Some p) (chars key)) _ (p, refl, k)
      (All-append (IsUnderLate m) own _ (all_late m (suc n) n d (omega arith) h)
      (members_late m (suc n + length own) p ms (omega arith) k))

abbrev pub string_order : String Global → String Global → Ordering
string_order a b = slice_cmp nat_cmp (string_bytes a) (string_bytes b)

-- a key that is below those of all members is not among them
pub absent : (key : String Global) (es : List (String Global × Value))
    → AllByRecursion (λ k. string_order key k ≡ Less) (keys_of es)
    → get_member (string_bytes key) (members_view es) ≡ None
absent key [] all = refl
absent key (e ∷ es) all = rw all.0 (absent key es all.1)

-- the nodes with one more under the place, and after it those of its value
abbrev pub with_member : List Node → Option ℕ → List ℕ → Data → List Node
with_member nodes place key d = nodes
    ++ node_at place (chars key) ∷ listed (suc (length nodes)) (Some (length nodes)) d

-- they come in two steps
pub in_steps : (old new after : List Node) (place : Option ℕ) (k key : List ℕ) (d : Data) (n : ℕ)
    → new ≡ old ++ node_at place (chars k) ∷ [] → k ≡ key → n ≡ length old
    → after ≡ new ++ listed (length new) (Some n) d → after ≡ with_member old place key d
in_steps old new after place k key d n is_new same count is_after =
    let more : length (old ++ node_at place (chars key) ∷ []) ≡ suc (length old)
    = rw length-append (omega arith) in
    rw (is_after, is_new, same, count, more, append_assoc) refl

-- and then those of the members after it
pub one_more : (nodes : List Node) (place : Option ℕ) (key : List ℕ) (d : Data) (ms : Members)
    → let after = with_member nodes place key d in
    after ++ listed_members (length after) place ms
    ≡ nodes ++ listed_members (length nodes) place (member key d ms)
one_more nodes place key d ms =
    let own = listed (suc (length nodes)) (Some (length nodes)) d in
    let count : length (with_member nodes place key d) ≡ suc (length nodes) + length own
    = rw length-append (omega arith) in
    rw (count, append_assoc nodes) refl

-- nothing is under a node that was just added
pub none_under : (nodes : List Node) (place : Option ℕ) (k : List ℕ) → IsTree nodes
    → IsPlaceOf nodes place → (id : ℕ) (key : List ℕ)
    → ¬ (slice_get (nodes ++ node_at place k ∷ []) id ≡ Some (node_at (Some (length nodes)) key))
none_under nodes place k tree within id key is =
    elim (from_push nodes (node_at (Some (length nodes)) key) (node_at place k) id is) [
      | inl old ↦ let earlier : length nodes < id = tree.later id (length nodes) key old in
          let less = slice_get_within nodes id _ old in
          omega (arith, earlier, less)
      | inr last ↦ let same : place ≡ Some (length nodes) = ap (λ (m : Node). m.parent) last.1 in
          let less : length nodes < length nodes = subst (IsPlaceOf nodes) same within in
          omega (arith, less)
    ]
