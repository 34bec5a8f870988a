use Rattle.inlinable_string.proofs.Common.{sym}
use Rattle.inlinable_string.proofs.Parts.{cut_at_end}
use Rattle.inlinable_string.proofs.inlinable_string.InlinableStringN.copied_in_parts.Goals as goal

pub returns-in-Inline : goal.returns-in-Inline
returns-in-Inline g c =
    let cut = rw c.len-len.ensures.value at c.truncate.ensures.text.1 in
    rw (cut_at_end cut) (sym c.in-Inline.is)
