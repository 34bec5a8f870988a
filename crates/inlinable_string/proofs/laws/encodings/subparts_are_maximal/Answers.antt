use Rattle.inlinable_string.proofs.Table.{table_begins, table_fits, table_longest}
use Rattle.inlinable_string.proofs.laws.encodings.subparts_are_maximal.Goals as goal

pub returns : goal.returns
returns c = record { character = table_fits; begins = table_begins; longest = table_longest }
