-- A tree of nodes with short keys, as its user sees it.
use Rattle.std.specs.Prelude.{◌≡◌, ◌↔◌, ℕ, suc, ◌+◌, ◌<◌, ◌≤◌, List, [], ◌∷◌, ◌++◌, length, map, Option, Some, None, slice_get, IfSome, IsSome, IsUtf8, option_and_then, ⊤}
use Rattle.std.specs.BTreeMap.{BTreeMap, get as value_at}
use Rattle.std.specs.Cmp.Lexicographic.{slice_cmp}
use Rattle.std.specs.List.{AllByRecursion}
use Rattle.std.specs.Option.{option_cmp}
use Rattle.std.specs.Ordering.{nat_cmp, ordering_then}
use Rattle.std.specs.declared.cmp.Ordering.{Ordering}
use Rattle.std.specs.Str.{chars}
use Rattle.inlinable_string.specs.Text.{bytes_of, size}
use Rattle.serde_json.specs.Data.{Data, object, Members, no_members, member, depth}
use Rattle.serde_json.specs.Find.{get}
use Rattle.inline_uses.specs.declared.tree.Fault.{Fault}
use Rattle.inline_uses.specs.declared.tree.Fault.TheVariants.{LongKey, NoNode, Taken, NotObject, TooDeep, NoMemory}
use Rattle.inline_uses.specs.declared.tree.Node.{Node}

-- the node with this key under this place: under a node by its number, or at the top
abbrev pub node_at : Option ℕ → List ℕ → Node
node_at parent key = record { parent = parent; key = key }

-- whether the nodes have this place: the top, or a node
abbrev pub IsPlaceOf : List Node → Option ℕ → Type 0
IsPlaceOf nodes place = IfSome place (λ id. id < length nodes)

-- the keys lead from a place down to the node
abbrev pub Leads : List Node → Option ℕ → List (List ℕ) → ℕ → Type 0
Leads nodes place [] to = place ≡ Some to
Leads nodes place (key ∷ keys) to =
    (id : ℕ) × (slice_get nodes id ≡ Some (node_at place key)) × Leads nodes (Some id) keys to

-- the keys as one text, each after a '/'
abbrev pub joined : List (List ℕ) → List ℕ
joined [] = []
joined (key ∷ keys) = 47 ∷ key ++ joined keys

-- no two nodes under one place have one key, each node is later than the one that it is under, and
-- keys are short
pub record IsTree (nodes : List Node) : Type 0 where
  pub once : (i j : ℕ) (node : Node)
      → slice_get nodes i ≡ Some node → slice_get nodes j ≡ Some node → i ≡ j
  pub later : (id parent : ℕ) (key : List ℕ)
      → slice_get nodes id ≡ Some (node_at (Some parent) key) → parent < id
  pub short : (id : ℕ) (node : Node) → slice_get nodes id ≡ Some node → size node.key ≤ 16

-- keys with their places in order: by the place, then by the key's bytes
abbrev pub place_order : Option ℕ × List ℕ → Option ℕ × List ℕ → Ordering
place_order x y =
    ordering_then (option_cmp nat_cmp x.0 y.0) (slice_cmp nat_cmp (bytes_of x.1) (bytes_of y.1))

-- each node is found by its place and key, and no others are
abbrev pub AreFound : List Node → BTreeMap (Option ℕ × List ℕ) ℕ → Type 0
AreFound nodes ids = (place : Option ℕ) (key : List ℕ) (id : ℕ) → chars (bytes_of key) ≡ key
    → (value_at place_order ids (place, key) ≡ Some id)
    ↔ (slice_get nodes id ≡ Some (node_at place key))

-- the nodes of a JSON object under a place, where the first of them gets the number n: one for each
-- member, in their order, each before those of the member's own value
abbrev mutual
  pub listed : ℕ → Option ℕ → Data → List Node
  listed n place (object ms) = listed_members n place ms
  listed n place d = []

  pub listed_members : ℕ → Option ℕ → Members → List Node
  listed_members n place no_members = []
  listed_members n place (member key d ms) =
      node_at place (chars key) ∷ listed (suc n) (Some n) d
      ++ listed_members (suc n + length (listed (suc n) (Some n) d)) place ms

-- what the keys lead to in a JSON value
abbrev pub walk : Data → List (List ℕ) → Option Data
walk d [] = Some d
walk d (key ∷ keys) = option_and_then (λ e. walk e keys) (get key d)

-- a JSON value is an object, and so is each value in it
abbrev mutual
  pub IsNested : Data → Type 0
  IsNested (object ms) = AreNested ms
  IsNested d = ⊥

  pub AreNested : Members → Type 0
  AreNested no_members = ⊤
  AreNested (member key d ms) = IsNested d × AreNested ms

-- keys lead somewhere in the JSON value exactly where they lead to a node from the place
abbrev pub IsShown : List Node → Option ℕ → Data → Type 0
IsShown nodes place d =
    (key : List ℕ) (keys : List (List ℕ)) → IsUtf8 key → AllByRecursion IsUtf8 keys
    → IsSome (walk d (key ∷ keys)) ↔ ((to : ℕ) × Leads nodes place (map chars (key ∷ keys)) to)

-- keys lead to a node of one tree exactly where they lead to a node of the other
abbrev pub HaveSamePaths : List Node → List Node → Type 0
HaveSamePaths nodes others =
    (key : List ℕ) (keys : List (List ℕ)) → IsUtf8 key → AllByRecursion IsUtf8 keys
    → ((to : ℕ) × Leads nodes None (map chars (key ∷ keys)) to)
    ↔ ((to : ℕ) × Leads others None (map chars (key ∷ keys)) to)

-- the keys of a JSON object, and of the objects in it, have at most 16 bytes
abbrev mutual
  pub HasShortKeys : Data → Type 0
  HasShortKeys (object ms) = HaveShortKeys ms
  HasShortKeys d = ⊤

  pub HaveShortKeys : Members → Type 0
  HaveShortKeys no_members = ⊤
  HaveShortKeys (member key d ms) = (length key ≤ 16) × HasShortKeys d × HaveShortKeys ms

-- a tree can be read from the JSON value, which has at most `levels` levels
abbrev pub IsReadable : ℕ → Data → Type 0
IsReadable levels d = IsNested d × HasShortKeys d × (depth d ≤ levels)

-- the JSON value has this fault, or it is one of memory alone
abbrev pub IsFaultOf : ℕ → Data → Fault → Type 0
IsFaultOf levels d LongKey = ¬ (HasShortKeys d)
IsFaultOf levels d NoNode = ⊥
IsFaultOf levels d Taken = ⊥
IsFaultOf levels d NotObject = ¬ (IsNested d)
IsFaultOf levels d TooDeep = levels < depth d
IsFaultOf levels d NoMemory = ⊤
