use Rattle.inline_uses.proofs.Names.{Some, ap, bytes_at, sym, ◌∙◌}
use Rattle.inline_uses.specs.Store.{entry_of}
use Rattle.inline_uses.proofs.Search.{none, seen_at}
use Rattle.inline_uses.proofs.store.Store.get.Goals as goal

pub returns-in-Ok : goal.returns-in-Ok
returns-in-Ok c =
    let read = c.index-as_slice-at.is in
    let found = seen_at entry_of c.self.inside.entries c.in-Ok.at c.index-as_slice-at.result
    c.args.key.now (rw c.self.view_is c.search.ensures.order)
    (rw c.self.view_is c.in-Ok.ensures.found) (rw c.as_slice.ensures at read) in
    rw (← c.self.view_is) (ap Some (c.as_str.ensures.bytes ∙ ap (λ e. bytes_at e.1) (sym read))
    ∙ sym found.1)

pub returns-in-Err : goal.returns-in-Err
returns-in-Err c =
    sym (none c.args.key.now c.args.self.now c.in-Err.field-0 c.in-Err.ensures.gap).0
