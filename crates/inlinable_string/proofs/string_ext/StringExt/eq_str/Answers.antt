use Rattle.inlinable_string.proofs.Text.{same_text, same_ascii}
use Rattle.inlinable_string.proofs.string_ext.StringExt.eq_str.Goals as goal

pub returns-clause-text : goal.returns-clause-text
returns-clause-text g c =
    same_text c.as_str.utf8 c.utf8.string c.as_str.ensures.text c.eq.ensures

pub returns-clause-ascii : goal.returns-clause-ascii
returns-clause-ascii g c =
    same_ascii c.as_str.utf8 c.utf8.string c.as_str.ensures.text c.eq.ensures
