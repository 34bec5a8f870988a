use Rattle.inline_uses.proofs.Names.{Some, ids_in, index_of, slice_get, subst, with_ids, ◌↔◌, ◌≡◌}
use Rattle.inline_uses.specs.Symbols.{texts_of}
use Rattle.inline_uses.proofs.Ids.{found_among, keys_are}
use Rattle.inline_uses.proofs.Search.{none}
use Rattle.inline_uses.proofs.symbols.Symbols.find.Goals as goal

pub returns-in-Ok : goal.returns-in-Ok
returns-in-Ok c = rw (← c.self.view_is) (found_among (texts_of c.self.inside)
    (ids_in c.self.inside.order) c.args.text.now c.in-Ok.ensures.found.0 c.in-Ok.id
    c.self.invariant.0 c.in-Ok.ensures.found.1 c.in-Ok.ensures.found.2)

pub returns-in-Err : goal.returns-in-Err
returns-in-Err c = λ id.
    let texts = texts_of c.self.inside in
    let ids = ids_in c.self.inside.order in
    rw (← c.self.view_is) (subst (λ o. (o ≡ Some id) ↔ (slice_get texts id ≡ Some c.args.text.now))
    (none c.args.text.now (with_ids texts ids) (index_of c.self.inside.order c.in-Err.field-0)
    (rw (keys_are texts ids) c.in-Err.ensures.gap)).0 (c.self.invariant.0.found c.args.text.now id))
