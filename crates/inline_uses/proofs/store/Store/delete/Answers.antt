use Rattle.std.proofs.Common.{sym, ap}
use Rattle.std.specs.Option.{is_some}
use Rattle.inline_uses.proofs.Search.{none, there, ordered_left, removed_seen}
use Rattle.inline_uses.proofs.store.Store.delete.Goals as goal

pub invariant_of-self : goal.invariant_of-self
invariant_of-self c =
    let old = c.args.self.now in
    let is = there c.args.key.now old c.in-Ok.at c.search.ensures.order c.in-Ok.ensures.found in
    rw (c.remove.ensures, removed_seen, c.self.view_is, ← is.3)
    (ordered_left old _ c.search.ensures.order)

pub returns-in-Ok-clause-left : goal.returns-in-Ok-clause-left
returns-in-Ok-clause-left c =
    let is = there c.args.key.now c.args.self.now c.in-Ok.at c.search.ensures.order
    c.in-Ok.ensures.found in
    rw (c.remove.ensures, removed_seen, c.self.view_is) (sym is.3)

pub returns-in-Ok-clause-found : goal.returns-in-Ok-clause-found
returns-in-Ok-clause-found c =
    let is = there c.args.key.now c.args.self.now c.in-Ok.at c.search.ensures.order
    c.in-Ok.ensures.found in
    sym (ap is_some is.2)

pub returns-in-Err-clause-left : goal.returns-in-Err-clause-left
returns-in-Err-clause-left c =
    sym (none c.args.key.now c.args.self.now c.in-Err.field-0 c.in-Err.ensures.gap).1

pub returns-in-Err-clause-found : goal.returns-in-Err-clause-found
returns-in-Err-clause-found c =
    sym (ap is_some (none c.args.key.now c.args.self.now c.in-Err.field-0 c.in-Err.ensures.gap).0)
