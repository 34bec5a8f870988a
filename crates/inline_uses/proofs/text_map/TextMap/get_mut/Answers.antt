use Rattle.inline_uses.proofs.Names.{ap, inr, sym, with_value, ◌∙◌}
use Rattle.inline_uses.proofs.Mapped.{lent, mapped_valued, value_read}
use Rattle.inline_uses.proofs.text_map.TextMap.get_mut.Goals as goal

pub invariant_of-self-lent : goal.invariant_of-self-lent
invariant_of-self-lent g c = mapped_valued c.self.inside.entries.items c.in-Ok.ensures.found.1
    c.index_mut.ensures.value c.self.invariant

pub returns-in-Ok : goal.returns-in-Ok
returns-in-Ok g c =
    let items = c.self.inside.entries.items in
    let whole = lent items c.in-Ok.ensures.found.1 c.index_mut.ensures.value c.self.invariant
    ∙ ap (λ es. with_value es c.args.key.now) c.self.view_is in
    (cc, rw (← c.self.view_is) (value_read items c.in-Ok.ensures.found.1 c.index_mut.ensures.value))

pub returns-in-Err : goal.returns-in-Err
returns-in-Err g c =
    (ap inr c.self.view_is, rw (← c.self.view_is) (sym c.in-Err.ensures.missing.none))
