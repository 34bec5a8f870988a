use Rattle.inline_uses.proofs.Names.{bytes_at, map, text_at}
use Rattle.inline_uses.proofs.Ids.{empty}
use Rattle.inline_uses.proofs.symbols.Symbols.new.Goals as goal

pub invariant_of-result : goal.invariant_of-result
invariant_of-result c = (
  rw (c.new.ensures.items, c.new-2.ensures.ids) empty,
  c.new-2.ensures.index (text_at (map bytes_at c.new.result.items)),
)
