use Rattle.inlinable_string.proofs.Common.{rules, ap, ◌∙◌, bytes_of, encodes-chars}
use Rattle.inlinable_string.proofs.Text.{ascii_chars}
use Rattle.inlinable_string.proofs.inlinable_string.InlinableStringN.from.Goals as goal

pub returns-clause-text : goal.returns-clause-text
returns-clause-text g c = search rules

pub returns-clause-bytes : goal.returns-clause-bytes
returns-clause-bytes g c = ap bytes_of (returns-clause-text g c) ∙ encodes-chars _ c.utf8.string

pub returns-clause-ascii : goal.returns-clause-ascii
returns-clause-ascii g c a = returns-clause-text g c ∙ ascii_chars _ a
