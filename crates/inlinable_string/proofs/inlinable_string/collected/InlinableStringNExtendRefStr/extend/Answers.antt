use Rattle.inlinable_string.proofs.Common.{text_of_strs}
use Rattle.inlinable_string.proofs.Extended.{extends_with_items}
use Rattle.inlinable_string.proofs.inlinable_string.collected.InlinableStringNExtendRefStr.extend.Goals as goal

pub returns-clause-ran : goal.returns-clause-ran
returns-clause-ran g c =
    extends_with_items text_of_strs _ _ _ _ _ _ c.into_iter.ensures.into_iter_gives
    c.extend_strs.ensures.ok c.extend_strs.ensures.err
