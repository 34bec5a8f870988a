use Rattle.inlinable_string.proofs.Edits.{insert_splices, insert_str_splices}
use Rattle.inlinable_string.proofs.laws.runs.insertions_are_splices.Goals as goal

pub returns : goal.returns
returns c = record { character = insert_splices; string = insert_str_splices }
