use Rattle.inlinable_string.proofs.Common.{rules, on_ok_weaker}
use Rattle.inlinable_string.proofs.Text.{place_behind}
use Rattle.inlinable_string.proofs.Window.{chars_one}
use Rattle.inlinable_string.proofs.inlinable_string.InlinableStringNStringExt.insert.Goals as goal

pub returns-else-idx-len-clause-text : goal.returns-else-idx-len-clause-text
returns-else-idx-len-clause-text g c = search (rules, chars_one)

pub returns-else-idx-len-clause-behind : goal.returns-else-idx-len-clause-behind
returns-else-idx-len-clause-behind g c =
    on_ok_weaker c.promote_and_insert.result place_behind (returns-else-idx-len-clause-text g c)
