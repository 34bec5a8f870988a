use Rattle.inline_uses.proofs.Mapped.{entries_valued, mapped_valued, value_read}
use Rattle.inline_uses.proofs.text_map.TextMap.put.Goals as goal

pub invariant_of-self : goal.invariant_of-self
invariant_of-self g c = rw c.replace.ensures.after (mapped_valued c.self.inside.entries.items
    c.in-Ok.ensures.found.1 c.index_mut.ensures.value c.self.invariant c.args.value)

pub returns-in-Ok-clause-old : goal.returns-in-Ok-clause-old
returns-in-Ok-clause-old g c = rw (← c.self.view_is, c.replace.ensures.value)
    (value_read c.self.inside.entries.items c.in-Ok.ensures.found.1 c.index_mut.ensures.value)

pub returns-in-Ok-clause-ok : goal.returns-in-Ok-clause-ok
returns-in-Ok-clause-ok g c = rw (← c.self.view_is, c.replace.ensures.after)
    (entries_valued c.self.inside.entries.items c.in-Ok.ensures.found.1 c.index_mut.ensures.value
    c.self.invariant c.args.value)
