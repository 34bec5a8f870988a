use Rattle.inlinable_string.proofs.Steps.{push_str_refused}
use Rattle.inlinable_string.proofs.run.push_str.Goals as goal

pub returns-in-Err : goal.returns-in-Err
returns-in-Err g c laws =
    let e = c.in-Err.ensures in
    push_str_refused _ _ _ c.utf8.string laws e.err e.granted e.inline_granted e.policy
