use Rattle.script_language.proofs.PlainCommands.{same_edit, same_need}
use Rattle.script_language.proofs.laws.words_and_arguments_tell_what_is_done.Goals as goal

pub returns-clause-edit : goal.returns-clause-edit
returns-clause-edit c = same_edit

pub returns-clause-need : goal.returns-clause-need
returns-clause-need c = same_need
