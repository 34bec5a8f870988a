use Rattle.inline_uses.proofs.Names.{None, bytes_at, get_or, insert, refl, rules, set, ◌≡◌}
use Rattle.inline_uses.specs.Store.{entry_of, value_of}
use Rattle.inline_uses.proofs.Search.{IsPut, replaced, inserted, none}
use Rattle.inline_uses.proofs.store.Store.put.Goals.{In-Ok, In-Err, In_ok-key-in-Err}
use Rattle.inline_uses.proofs.store.Store.put.Goals as goal

-- a value in place of another
over : (c : In-Ok) → IsPut entry_of (set c.self.inside.entries c.in-Ok.at (
  (get_or
      c.self.inside.entries c.in-Ok.at (c.in_ok-value.value, c.in_ok-value.value)).0,
  c.in_ok-value.value,
)) c.args.self.now c.args.key.now c.args.value.now
over c =
    let is : bytes_at c.in_ok-value.value ≡ c.args.value.now = search rules in
    replaced entry_of c.self.inside.entries c.args.self.now c.self.view_is c.in-Ok.at
    c.args.key.now c.args.value.now _ c.search.ensures.order (
      c.in_ok-value.value,
      c.in_ok-value.value,
    ) c.in-Ok.ensures.found (rw is refl)

pub invariant_of-self : goal.invariant_of-self
invariant_of-self c = rw (c.set_value.ensures (c.in_ok-value.value, c.in_ok-value.value))
    (over (goal.at.invariant_of-self c).In-Ok).1

pub returns-in-Ok-clause-ok : goal.returns-in-Ok-clause-ok
returns-in-Ok-clause-ok c = rw (c.set_value.ensures (c.in_ok-value.value, c.in_ok-value.value))
    (over (goal.at.returns-in-Ok-clause-ok c).In-Ok).0

-- a new entry
anew : (c : In_ok-key-in-Err) → IsPut entry_of (insert c.self.inside.entries c.in-Err.at
    (c.in_ok-key-in-Err.key, c.in_ok-value.value)) c.args.self.now c.args.key.now c.args.value.now
anew c =
    let name : bytes_at c.in_ok-key-in-Err.key ≡ c.args.key.now = search rules in
    let is : bytes_at c.in_ok-value.value ≡ c.args.value.now = search rules in
    inserted entry_of c.self.inside.entries c.args.self.now c.self.view_is c.in-Err.at
    c.args.key.now c.args.value.now _ c.search.ensures.order c.in-Err.ensures.gap
    (rw (name, is) refl)

pub invariant_of-self-in-Continue-branch-3 : goal.invariant_of-self-in-Continue-branch-3
invariant_of-self-in-Continue-branch-3 c = rw c.in_ok-insert-in-Err.ensures
    (anew (goal.at.invariant_of-self-in-Continue-branch-3 c).In_ok-key-in-Err).1

pub returns-in_ok-insert-in-Err-clause-ok : goal.returns-in_ok-insert-in-Err-clause-ok
returns-in_ok-insert-in-Err-clause-ok c = rw c.in_ok-insert-in-Err.ensures
    (anew (goal.at.returns-in_ok-insert-in-Err-clause-ok c).In_ok-key-in-Err).0

no_value : (c : In-Err) → value_of c.args.self.now c.args.key.now ≡ None
no_value c = (none c.args.key.now c.args.self.now c.in-Err.at c.in-Err.ensures.gap).0

pub returns-in_err-key-in-Err-clause-short : goal.returns-in_err-key-in-Err-clause-short
returns-in_err-key-in-Err-clause-short c =
    rw (no_value (goal.at.returns-in_err-key-in-Err-clause-short c).In-Err) (search rules)

pub returns-in_err-insert-in-Err-clause-short : goal.returns-in_err-insert-in-Err-clause-short
returns-in_err-insert-in-Err-clause-short c =
    rw (no_value (goal.at.returns-in_err-insert-in-Err-clause-short c).In-Err) (search rules)
