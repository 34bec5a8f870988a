use Rattle.inlinable_string.proofs.Common.{sym, ap, ◌∙◌, lossy_utf16}
use Rattle.inlinable_string.proofs.Units.{text_is_read}
use Rattle.inlinable_string.proofs.laws.encodings.utf16_is_read_as_it_is.Goals as goal

pub returns : goal.returns
returns c = record {
  read = text_is_read;
  told = λ t u p q same. sym (text_is_read t p) ∙ ap lossy_utf16 same ∙ text_is_read u q;
}
