use Rattle.inlinable_string.proofs.SecondRun.{runs_follow}
use Rattle.inlinable_string.proofs.laws.runs.a_second_run_goes_on.Goals as goal

pub returns : goal.returns
returns c = runs_follow
