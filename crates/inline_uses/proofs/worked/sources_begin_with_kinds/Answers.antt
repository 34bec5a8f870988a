use Rattle.std.proofs.Common.{refl}
use Rattle.std.proofs.UnicodeAscii.{unicode_tables}
use Rattle.inline_uses.proofs.worked.sources_begin_with_kinds.Goals as goal

pub returns-clause-others : goal.returns-clause-others
unfolding unicode_tables
returns-clause-others c = refl
