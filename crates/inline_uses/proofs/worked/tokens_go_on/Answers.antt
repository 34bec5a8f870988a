use Rattle.std.proofs.Common.{refl}
use Rattle.std.proofs.UnicodeAscii.{unicode_tables}
use Rattle.inline_uses.proofs.worked.tokens_go_on.Goals as goal

pub returns-clause-word : goal.returns-clause-word
unfolding unicode_tables
returns-clause-word c = refl
