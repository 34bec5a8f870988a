use Rattle.inlinable_string.proofs.Common.{rules, sym, ap, ◌∙◌, encodes-chars, bytes_of}
use Rattle.inlinable_string.proofs.Subparts.{lossy_all}
use Rattle.inlinable_string.proofs.Makers.{bytes-string}
use Rattle.inlinable_string.proofs.string_ext.make.StringMake.from_utf8_lossy.Goals as goal

pub returns-in-Some-clause-text : goal.returns-in-Some-clause-text
returns-in-Some-clause-text g c =
    let is = c.in-Some.ensures in
    is.0 ∙ sym (encodes-chars _ is.1) ∙ ap bytes_of (sym (lossy_all _ is.1))

pub returns-clause-text : goal.returns-clause-text
returns-clause-text g c = search (rules, bytes-string)
