use Rattle.inline_uses.proofs.Names.{ap, refl, rules, unwrap_or, value_of, with_value, ◌∙◌}
use Rattle.inline_uses.proofs.Mapped.{lent, mapped_valued, value_read}
use Rattle.inline_uses.proofs.Pushed.{IsPut, last_lent, last_mapped, last_value}
use Rattle.inline_uses.proofs.text_map.TextMap.get_or_put.Given.{Over}
use Rattle.inline_uses.proofs.text_map.TextMap.get_or_put.Goals.{In_ok-insert-in-Err}
use Rattle.inline_uses.proofs.text_map.TextMap.get_or_put.Goals as goal

pub invariant_of-self-lent : goal.invariant_of-self-lent
invariant_of-self-lent g c = mapped_valued c.self.inside.entries.items c.in-Ok.ensures.found.1
    c.index_mut.ensures.value c.self.invariant

pub returns-in-Ok : goal.returns-in-Ok
returns-in-Ok g c =
    let items = c.self.inside.entries.items in
    let whole = lent items c.in-Ok.ensures.found.1 c.index_mut.ensures.value c.self.invariant
    ∙ ap (λ es. with_value es c.args.key.now) c.self.view_is in
    let value = value_read items c.in-Ok.ensures.found.1 c.index_mut.ensures.value
    ∙ ap (λ es. value_of es c.args.key.now) c.self.view_is in
    (cc, (ap (λ had. unwrap_or had c.args.value) value, ((λ _. refl), tt)))

put : (g : Over) → (c : In_ok-insert-in-Err g) → IsPut c.self.inside.entries.items
    c.insert.new.entries.items c.self.inside.order c.insert.new.order c.args.key.now c.args.value
    c.len-id.result
put g c = record {
  mapped = c.in_ok-insert-in-Err.ensures.mapped;
  grown_is = c.in_ok-insert-in-Err.ensures.entry;
  put = c.in_ok-insert-in-Err.ensures.ok;
  id_is = search rules;
}

pub invariant_of-self-lent-in-Err : goal.invariant_of-self-lent-in-Err
invariant_of-self-lent-in-Err g c =
    last_mapped (put g (goal.at.invariant_of-self-lent-in-Err g c).In_ok-insert-in-Err)
    c.index_mut-in-Err.ensures.value

pub returns-in_ok-insert-in-Err : goal.returns-in_ok-insert-in-Err
returns-in_ok-insert-in-Err g c =
    let is = put g (goal.at.returns-in_ok-insert-in-Err g c).In_ok-insert-in-Err in
    let whole = last_lent is c.index_mut-in-Err.ensures.value
    ∙ ap (λ es. with_value es c.args.key.now) c.self.view_is in (
      cc,
      (
        rw (← c.self.view_is, c.in-Err.ensures.missing.none)
            (last_value is c.index_mut-in-Err.ensures.value),
        ((λ _. refl), tt),
      ),
    )
