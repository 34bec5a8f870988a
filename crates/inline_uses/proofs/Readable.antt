-- JSON values from which trees can be read, member by member.
use Rattle.inline_uses.proofs.TreeNames.{AreNested, Data, Equal, Err, Fault, Greater, HasShortKeys, HaveShortKeys, IsFaultOf, IsNested, IsReadable, Less, List, LongKey, Members, NoMemory, NoNode, NotObject, Ordering, Result, Taken, TooDeep, arith, depth, length, match_ordering, member, members_depth, no_members, object, put, rules, suc, ℕ, ◌-◌, ◌<◌, ◌↔◌, ◌≡◌, ◌≤◌}

-- whether the members that are left can be read decides whether the value can
abbrev pub Decide : ℕ → Data → Members → Type 0
Decide levels d left = (AreNested left ↔ IsNested d) × (HaveShortKeys left ↔ HasShortKeys d)
    × ((members_depth left < levels) ↔ (depth d ≤ levels))

pub all_decide : (levels : ℕ) (ms : Members) → Decide levels (object ms) ms
all_decide levels ms =
    (((λ h. h), λ h. h), ((λ h. h), λ h. h), ((λ h. omega arith), λ h. omega arith))

pub one_read : (levels : ℕ) (d : Data) (k : List ℕ) (e : Data) (rest : Members)
    → Decide levels d (member k e rest) → length k ≤ 16 → IsReadable (levels - 1) e → 0 < levels
    → Decide levels d rest
one_read levels d k e rest (nested, short, deep) key (is_nested, has_short, shallow) some = (
  ((λ h. nested.0 (is_nested, h)), λ h. (nested.1 h).1),
  ((λ h. short.0 (key, has_short, h)), λ h. let (_, _, last) = short.1 h in last),
  ((λ h. deep.0 (omega arith)), λ h. let less = deep.1 h in omega arith),
)

-- why the next member was not added
pub not_added : (levels : ℕ) (d : Data) (k : List ℕ) (e : Data) (rest : Members) (f : Fault)
    → (r : Result ℕ Fault) → Decide levels d (member k e rest) → r ≡ Err f
    → (r ≡ Err LongKey → 16 < length k) → ¬ (r ≡ Err NoNode) → ¬ (r ≡ Err Taken)
    → ¬ (r ≡ Err NotObject) → ¬ (r ≡ Err TooDeep) → IsFaultOf levels d f
not_added levels d k e rest LongKey r (nested, short, deep) is long _ _ _ _ =
    λ h. let (first, _, _) = short.1 h in absurd (omega (arith, long is, first))
not_added levels d k e rest NoNode r decide is _ node _ _ _ = node is
not_added levels d k e rest Taken r decide is _ _ taken _ _ = taken is
not_added levels d k e rest NotObject r decide is _ _ _ nested _ = absurd (nested is)
not_added levels d k e rest TooDeep r decide is _ _ _ _ deep = absurd (deep is)
not_added levels d k e rest NoMemory r decide is _ _ _ _ _ = search rules

any_order : (P : Members → Type 0) (o : Ordering) (a b c : Members) → P a → P b → P c
    → P (match_ordering o a b c)
any_order P Less a b c p q r = p
any_order P Equal a b c p q r = q
any_order P Greater a b c p q r = r

abbrev pub AreReadable : ℕ → Members → Type 0
AreReadable n ms = AreNested ms × HaveShortKeys ms × (members_depth ms ≤ n)

-- a member that is put in keeps what the others have
pub readable_put : (n : ℕ) (k : List ℕ) (d : Data) (ms : Members) → length k ≤ 16
    → IsReadable n d → AreReadable n ms → AreReadable n (put k d ms)
readable_put n k d no_members key (nested, short, deep) are =
    ((nested, tt), (key, short, tt), omega (arith, deep))
readable_put n k d (member l e ms) key (nested, short, deep) are =
    let ((first, others), (known, at, rest), below) = are in
    let (put_nested, put_short, put_deep) = readable_put n k d ms key (nested, short, deep)
    (others, rest, omega (arith, below)) in
    any_order (AreReadable n) _ (member k d (member l e ms)) (member l d ms)
    (member l e (put k d ms))
    ((nested, (first, others)), (key, short, (known, at, rest)), omega (arith, deep, below))
    ((nested, others), (known, short, rest), omega (arith, deep, below))
    ((first, put_nested), (known, at, put_short), omega (arith, put_deep, below))
