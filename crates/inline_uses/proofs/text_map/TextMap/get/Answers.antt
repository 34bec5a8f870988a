use Rattle.inline_uses.proofs.Names.{sym}
use Rattle.inline_uses.proofs.Mapped.{value_read}
use Rattle.inline_uses.proofs.text_map.TextMap.get.Goals as goal

pub returns-in-Ok : goal.returns-in-Ok
returns-in-Ok g c = rw (← c.self.view_is) (value_read c.self.inside.entries.items
    c.in-Ok.ensures.found.1 c.index.ensures)

pub returns-in-Err : goal.returns-in-Err
returns-in-Err g c = rw (← c.self.view_is) (sym c.in-Err.ensures.missing.none)
