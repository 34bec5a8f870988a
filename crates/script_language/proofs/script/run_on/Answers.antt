use Rattle.std.proofs.Common.{rules, arith}
use Rattle.std.proofs.lemmas.Grind.{common_steps}
use Rattle.script_language.proofs.script.run_on.Goals as goal

pub returns-in_err-replies-clause-fault : goal.returns-in_err-replies-clause-fault
returns-in_err-replies-clause-fault g c = search rules steps 1000000

pub returns-clause-ran : goal.returns-clause-ran
returns-clause-ran g c = grind (arith, common_steps) steps 3000000

pub returns-clause-part : goal.returns-clause-part
returns-clause-part g c = grind (arith, common_steps) steps 3000000
