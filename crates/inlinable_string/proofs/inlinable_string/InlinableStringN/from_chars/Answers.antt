use Rattle.inlinable_string.proofs.Common.{text_of_chars}
use Rattle.inlinable_string.proofs.Extended.{joined_text, refused_above, refused}
use Rattle.inlinable_string.proofs.inlinable_string.InlinableStringN.from_chars.Goals as goal

pub returns-in_err-extend_chars-clause-err : goal.returns-in_err-extend_chars-clause-err
returns-in_err-extend_chars-clause-err g c =
    let made = c.new-made in
    refused c.from_residual.result
    (refused_above text_of_chars g.row.N _ _ made.result made.ensures.text made.ensures.storage _
    c.in_err-extend_chars.ensures.err)

pub returns-clause-text : goal.returns-clause-text
returns-clause-text g c =
    let made = c.new-made in
    joined_text text_of_chars g.row.N _ _ made.result made.ensures.text made.ensures.storage _
    c.in_ok-extend_chars.ensures.ok
