use Rattle.std.proofs.Common.{append-nil, ◌≡◌, map, sym, ◌∙◌}
use Rattle.inline_uses.specs.Store.{entry_of}
use Rattle.inline_uses.specs.TextMap.{texts_of}
use Rattle.inline_uses.proofs.MapTexts.{texts_in_order}
use Rattle.inline_uses.proofs.store.Store.from_map.Goals as goal

pub invariant_of-result : goal.invariant_of-result
invariant_of-result c =
    let all : map entry_of c.loop-key.entries ≡ texts_of c.args.map.now
    = sym (append-nil _) ∙ rw c.in-None.ensures.steps.0 at c.loop-key.invariant in
    rw all (texts_in_order c.args.map.now c.iter-key-items.ensures.order)
