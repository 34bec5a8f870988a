use Rattle.inlinable_string.proofs.Common.{rules}
use Rattle.inlinable_string.proofs.Cut.{places_are}
use Rattle.inlinable_string.proofs.Text.{bytes_are, holds_chars}
use Rattle.inlinable_string.proofs.string_ext.std_string.StringStringExt.as_str.Goals as goal

pub returns-clause-bytes : goal.returns-clause-bytes
returns-clause-bytes c = search (rules, bytes_are, holds_chars)

pub returns-clause-places : goal.returns-clause-places
returns-clause-places c = places_are _ _ c.as_str.utf8 (returns-clause-bytes c)
