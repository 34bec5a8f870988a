use Rattle.script_language.proofs.OneCommand.{one_command}
use Rattle.script_language.proofs.line.a_line_asks_for_one_command.Goals as goal

pub returns : goal.returns
returns c = one_command
