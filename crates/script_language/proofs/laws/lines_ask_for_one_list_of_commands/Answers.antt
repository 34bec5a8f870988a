use Rattle.script_language.specs.Line.{arguments_of, word_of}
use Rattle.script_language.proofs.BadLines.{as_many_commands}
use Rattle.script_language.proofs.PlainCommands.{asked_alike}
use Rattle.script_language.proofs.laws.lines_ask_for_one_list_of_commands.Goals as goal

pub returns-clause-words : goal.returns-clause-words
returns-clause-words c = asked_alike word_of (λ one other words args. words)

pub returns-clause-arguments : goal.returns-clause-arguments
returns-clause-arguments c = asked_alike arguments_of (λ one other words args. args)

pub returns-clause-count : goal.returns-clause-count
returns-clause-count c = as_many_commands
