use Rattle.inlinable_string.proofs.Steps.{push_str_refused}
use Rattle.inlinable_string.proofs.run.dynamic.push_str_dyn.Goals as goal

pub returns-in-Err : goal.returns-in-Err
returns-in-Err g c laws =
    let e = c.in-Err.ensures in
    let refusal = e.1.1.1.1.1 in
    push_str_refused _ _ _ c.utf8.string laws refusal.0 refusal.1.0 refusal.1.1.0 refusal.1.1.1.1
