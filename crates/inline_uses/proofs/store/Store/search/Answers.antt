use Rattle.inline_uses.proofs.Names.{InlinableStringN, IsStrictlySortedBy, List, arith, key_order, keys_of, map, map-map, subst, ℕ, ◌≡◌}
use Rattle.inline_uses.specs.Store.{AreInOrder, entry_of}
use Rattle.inline_uses.proofs.Search.{compared}
use Rattle.inline_uses.proofs.store.Store.search.Goals as goal

abbrev key_in : InlinableStringN 30 × InlinableStringN 30 → List ℕ
key_in e = (entry_of e).0

-- the keys of entries are in order, if those are the entries of a store
module _ {entries items : List (InlinableStringN 30 × InlinableStringN 30)}
    (given : entries ≡ items)
  where
    keys_seen : keys_of (map entry_of items) ≡ map key_in entries
    keys_seen = rw given (map-map (λ e. e.0) entry_of items)

    in_order : AreInOrder (map entry_of items) → IsStrictlySortedBy key_order (map key_in entries)
    in_order sorted = subst (IsStrictlySortedBy key_order) keys_seen sorted

pub loop-start-preserved-in-Less : goal.loop-start-preserved-in-Less
loop-start-preserved-in-Less c = (compared key_in _ (in_order c.as_slice-entries.ensures
    c.self.invariant) c.loop-start.invariant (omega arith) c.index-entries-middle.is
    c.compare.ensures).0 c.in-Less.is

pub loop-start-preserved : goal.loop-start-preserved
loop-start-preserved c = (compared key_in _ (in_order c.as_slice-entries.ensures
    c.self.invariant) c.loop-start.invariant (omega arith) c.index-entries-middle.is
    c.compare.ensures).2 c.in-Greater.is

pub returns-in-Equal-clause-found : goal.returns-in-Equal-clause-found
returns-in-Equal-clause-found c = rw (← c.self.view_is, keys_seen c.as_slice-entries.ensures)
    ((compared key_in _ (in_order c.as_slice-entries.ensures
    c.self.invariant) c.loop-start.invariant (omega arith) c.index-entries-middle.is
    c.compare.ensures).1 c.in-Equal.is)

pub returns-clause-gap : goal.returns-clause-gap
returns-clause-gap c = rw (← c.self.view_is, keys_seen c.as_slice-entries.ensures) (
  omega arith,
  c.loop-start.invariant.2,
  λ i le less. c.loop-start.invariant.3 i (omega arith) less,
)
