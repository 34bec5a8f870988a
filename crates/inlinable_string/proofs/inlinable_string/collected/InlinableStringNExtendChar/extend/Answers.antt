use Rattle.inlinable_string.proofs.Common.{text_of_chars}
use Rattle.inlinable_string.proofs.Extended.{extends_with_items}
use Rattle.inlinable_string.proofs.inlinable_string.collected.InlinableStringNExtendChar.extend.Goals as goal

pub returns-clause-ran : goal.returns-clause-ran
returns-clause-ran g c =
    extends_with_items text_of_chars _ _ _ _ _ _ c.into_iter.ensures.into_iter_gives
    c.extend_chars.ensures.ok c.extend_chars.ensures.err
