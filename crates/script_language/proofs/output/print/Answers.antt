use Rattle.std.proofs.Common.{rules, [], ◌++◌, ap, refl, subst}
use Rattle.std.proofs.lemmas.Result.{on_ok_weaker}
use Rattle.std.specs.Io.KnownBytes.{Appends}
use Rattle.script_language.specs.Output.{state_lines, WritesFront}
use Rattle.script_language.proofs.Fronts.{front_of_more, of_any_error, of_error}
use Rattle.script_language.proofs.Gathered.{gathered_in, gathered_more, gathered_and_flushed, front_after_gathered, front_of_flushed}
use Rattle.script_language.proofs.PrintedLines.{next_line, no_line_left}
use Rattle.script_language.proofs.output.print.Goals as goal

pub loop-reply-init : goal.loop-reply-init
loop-reply-init g c = ([], refl, gathered_in _ [] [] c.new-buffer.ensures)

pub loop-reply-preserved : goal.loop-reply-preserved
loop-reply-preserved g c =
    let (done, all, gathered) = c.loop-reply.invariant in (
      _,
      next_line c.args.replies.now c.loop-reply.reply-index done (search rules) all,
      gathered_more gathered c.in_ok-print_reply.ensures.gathered,
    )

pub returns-in_err-print_reply-clause-part : goal.returns-in_err-print_reply-clause-part
returns-in_err-print_reply-clause-part g c =
    let (done, all, gathered) = c.loop-reply.invariant in
    let front = front_after_gathered _ gathered c.in_err-print_reply.ensures.part in
    let same = next_line c.args.replies.now c.loop-reply.reply-index done (search rules) all in
    of_any_error _ _
    (front_of_more _ _ _ _ (subst (WritesFront _ _) same (front_of_more _ _ _ _ front)))

pub returns-in_err-print_state-clause-part : goal.returns-in_err-print_state-clause-part
returns-in_err-print_state-clause-part g c =
    let (done, all, gathered) = c.loop-reply.invariant in
    let front = front_after_gathered _ gathered c.in_err-print_state.ensures.part in
    let same = no_line_left c.args.replies.now c.loop-reply.reply-index done (search rules) all in
    of_any_error _ _
    (subst (WritesFront _ _) (ap (λ l. l ++ state_lines (g.S.StringExt.state c.args.text.now)) same)
    front)

pub returns : goal.returns
returns g c =
    let (done, all, gathered) = c.loop-reply.invariant in
    let same = no_line_left c.args.replies.now c.loop-reply.reply-index done (search rules) all in
    let whole = ap (λ l. l ++ state_lines (g.S.StringExt.state c.args.text.now)) same in
    let more = gathered_more gathered c.in_ok-print_state.ensures.gathered in
    record {
      written = on_ok_weaker c.flush.result
          (λ h. subst (Appends _ _) whole (gathered_and_flushed _ more h)) c.flush.ensures.written;
      part = of_error _ _ _ (λ front. subst (WritesFront _ _) whole (front_of_flushed more front))
          c.flush.ensures.part;
      fault = c.flush.ensures.fault;
    }
