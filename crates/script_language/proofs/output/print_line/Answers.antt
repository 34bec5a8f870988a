use Rattle.std.proofs.Common.{codes}
use Rattle.std.proofs.lemmas.Result.{on_ok_weaker}
use Rattle.script_language.proofs.Fronts.{of_any_error, of_error}
use Rattle.script_language.proofs.Gathered.{gathered_more, front_after_gathered, front_of_longer}
use Rattle.script_language.proofs.output.print_line.Goals as goal

pub returns-in_err-add-clause-part : goal.returns-in_err-add-clause-part
returns-in_err-add-clause-part g c =
    let value = front_of_longer _ _ c.args.value.now c.in_err-add.ensures.part in
    of_any_error _ _ (front_of_longer _ _ (codes "\n") value)

pub returns-in_err-add-2-clause-part : goal.returns-in_err-add-2-clause-part
returns-in_err-add-2-clause-part g c =
    let label = c.in_ok-add.ensures.gathered in
    let value = front_after_gathered c.args.value.now label c.in_err-add-2.ensures.part in
    of_any_error _ _ (front_of_longer _ _ (codes "\n") value)

pub returns-clause-gathered : goal.returns-clause-gathered
returns-clause-gathered g c =
    let both = gathered_more c.in_ok-add.ensures.gathered c.in_ok-add-2.ensures.gathered in
    on_ok_weaker c.add-3.result (gathered_more both) c.add-3.ensures.gathered

pub returns-clause-part : goal.returns-clause-part
returns-clause-part g c =
    let both = gathered_more c.in_ok-add.ensures.gathered c.in_ok-add-2.ensures.gathered in
    of_error _ _ _ (front_after_gathered (codes "\n") both) c.add-3.ensures.part
