use Rattle.inlinable_string.proofs.Common.{rules, on_ok_weaker}
use Rattle.inlinable_string.proofs.Text.{place_behind_str, ascii-spliced_str}
use Rattle.inlinable_string.proofs.inlinable_string.InlinableStringNStringExt.insert_str.Goals as goal

pub returns-in-Err-clause-text : goal.returns-in-Err-clause-text
returns-in-Err-clause-text g c = search rules

pub returns-in-Err-clause-ascii : goal.returns-in-Err-clause-ascii
returns-in-Err-clause-ascii g c a =
    on_ok_weaker c.promote_and_insert.result (ascii-spliced_str _ a)
    (returns-in-Err-clause-text g c)

pub returns-in-Err-clause-behind : goal.returns-in-Err-clause-behind
returns-in-Err-clause-behind g c =
    on_ok_weaker c.promote_and_insert.result (place_behind_str c.utf8.string)
    (returns-in-Err-clause-text g c)
