use Rattle.std.proofs.lemmas.Result.{on_ok_weaker}
use Rattle.script_language.proofs.Fronts.{front_of_more, front_after, of_any_error, of_error}
use Rattle.script_language.proofs.Gathered.{gathered_out}
use Rattle.script_language.proofs.buffer.Buffer.add.Goals as goal

pub returns-in_err-flush-clause-part : goal.returns-in_err-flush-clause-part
returns-in_err-flush-clause-part g c =
    of_any_error _ _ (front_of_more _ _ _ c.args.bytes.now c.in_err-flush.ensures.part)

pub returns-then-bytes-gt-MOST_WAITING-clause-gathered :
    goal.returns-then-bytes-gt-MOST_WAITING-clause-gathered
returns-then-bytes-gt-MOST_WAITING-clause-gathered g c =
    let e = c.in_ok-flush.ensures in
    on_ok_weaker c.write_whole.result
    (gathered_out _ _ _ c.args.self.now c.args.bytes.now e.written e.empty)
    c.write_whole.ensures.written

pub returns-then-bytes-gt-MOST_WAITING-clause-part :
    goal.returns-then-bytes-gt-MOST_WAITING-clause-part
returns-then-bytes-gt-MOST_WAITING-clause-part g c =
    of_error _ _ _ (front_after _ _ _ _ _ c.in_ok-flush.ensures.written)
    c.write_whole.ensures.part
