use Rattle.std.proofs.Common.{subst}
use Rattle.script_language.specs.Script.{LinesAskFor}
use Rattle.script_language.proofs.BadLines.{bad_among}
use Rattle.script_language.proofs.laws.lines_with_a_bad_one_ask_for_no_commands.Goals as goal

pub returns : goal.returns
returns c lines number commands bad asked =
    bad_among bad.before bad.behind bad.line commands bad.has_bytes bad.rejected
    (subst (λ l. LinesAskFor l commands) bad.split asked)
