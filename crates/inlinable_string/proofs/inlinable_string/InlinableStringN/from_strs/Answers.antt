use Rattle.inlinable_string.proofs.Common.{text_of_strs}
use Rattle.inlinable_string.proofs.Extended.{joined_text, refused_above, refused}
use Rattle.inlinable_string.proofs.inlinable_string.InlinableStringN.from_strs.Goals as goal

pub returns-in_err-extend_strs-clause-err : goal.returns-in_err-extend_strs-clause-err
returns-in_err-extend_strs-clause-err g c =
    let made = c.new-made in
    refused c.from_residual.result
    (refused_above text_of_strs g.row.N _ _ made.result made.ensures.text made.ensures.storage _
    c.in_err-extend_strs.ensures.err)

pub returns-clause-text : goal.returns-clause-text
returns-clause-text g c =
    let made = c.new-made in
    rw c.copied_in_parts.ensures
    (joined_text text_of_strs g.row.N _ _ made.result made.ensures.text made.ensures.storage _
    c.in_ok-extend_strs.ensures.ok)
