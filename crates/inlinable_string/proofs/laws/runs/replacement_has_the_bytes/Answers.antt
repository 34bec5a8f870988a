use Rattle.inlinable_string.proofs.Edits.{replaced_with, replaced_wrong_length, replaced_not_utf8}
use Rattle.inlinable_string.proofs.laws.runs.replacement_has_the_bytes.Goals as goal

pub returns : goal.returns
returns c = record {
  done = replaced_with;
  wrong_length = replaced_wrong_length;
  not_utf8 = replaced_not_utf8;
}
