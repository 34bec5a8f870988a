use Rattle.inlinable_string.proofs.Common.{text_of_strs, inlinable_policy, inlinable_state, storage_when_made}
use Rattle.inlinable_string.proofs.Extended.{collects_items}
use Rattle.inlinable_string.proofs.inlinable_string.collected.InlinableStringNFromIteratorRefStr.from_iter.Goals as goal

pub returns : goal.returns
returns g c = record {
  ran =
      collects_items text_of_strs _ _ _ _ (inlinable_state g.row.N)
      (storage_when_made (inlinable_policy g.row.N)) _ c.into_iter.ensures.into_iter_gives
      c.from_strs.ensures.text c.from_strs.ensures.storage;
}
