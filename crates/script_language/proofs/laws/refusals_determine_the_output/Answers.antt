use Rattle.std.proofs.Common.{refl}
use Rattle.script_language.specs.Script.{lines_of}
use Rattle.script_language.proofs.Outputs.{from_same_start, one_start}
use Rattle.script_language.proofs.PlainCommands.{asked_alike, one_plain, plain}
use Rattle.script_language.proofs.laws.refusals_determine_the_output.Goals as goal

pub returns-clause-script : goal.returns-clause-script
returns-clause-script c input output other one two =
    from_same_start one.start two.start one.commands two.commands output other
    (one_start _ one.start two.start one.named two.named) one.run two.run
    (asked_alike plain one_plain (lines_of input) one.commands two.commands one.asked two.asked)

pub returns-clause-start : goal.returns-clause-start
returns-clause-start c start commands output other one two =
    from_same_start start start commands commands output other refl one two refl
