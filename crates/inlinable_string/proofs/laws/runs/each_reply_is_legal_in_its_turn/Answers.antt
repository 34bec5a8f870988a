use Rattle.inlinable_string.proofs.RepliesInTurn.{as_many_replies, legal_at}
use Rattle.inlinable_string.proofs.Runs.{text_of}
use Rattle.inlinable_string.proofs.laws.runs.each_reply_is_legal_in_its_turn.Goals as goal

pub returns : goal.returns
returns c = record { count = as_many_replies; reply = legal_at; text = text_of }
