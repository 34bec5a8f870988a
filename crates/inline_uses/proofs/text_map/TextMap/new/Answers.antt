use Rattle.inline_uses.proofs.Names.{entry_of, keys_of, map, text_at}
use Rattle.inline_uses.proofs.Numbered.{no_numbers}
use Rattle.inline_uses.proofs.text_map.TextMap.new.Goals as goal

pub invariant_of-result : goal.invariant_of-result
invariant_of-result g c = (
  rw (c.new-entries.ensures.items, c.new-order.ensures.ids) no_numbers,
  c.new-order.ensures.index (text_at (keys_of (map entry_of c.new-entries.result.items))),
)
