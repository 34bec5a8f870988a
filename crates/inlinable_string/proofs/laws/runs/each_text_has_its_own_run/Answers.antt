use Rattle.inlinable_string.proofs.RepliesInTurn.{run_at, own_reply_at, as_many_texts}
use Rattle.inlinable_string.proofs.laws.runs.each_text_has_its_own_run.Goals as goal

pub returns : goal.returns
returns c = record { run = run_at; reply = own_reply_at; count = as_many_texts }
