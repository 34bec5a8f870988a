use Rattle.std.proofs.lemmas.Fmt.{contents_after_writes}
use Rattle.inlinable_string.proofs.Common.{bytes_of, inlinable_state}
use Rattle.inlinable_string.proofs.laws.printed.writing_appends.Goals as goal

pub returns-clause-inline_in_calls : goal.returns-clause-inline_in_calls
returns-clause-inline_in_calls g c = contents_after_writes _ bytes_of (λ w bs v appended. appended)

pub returns-clause-any_in_calls : goal.returns-clause-any_in_calls
returns-clause-any_in_calls g c =
    contents_after_writes _ (λ s. bytes_of (inlinable_state _ s).text) (λ w bs v appended. appended)
