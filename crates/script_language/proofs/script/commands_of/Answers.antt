use Rattle.std.proofs.Common.{rules, ◌≡◌, ap, length, arith, []}
use Rattle.script_language.proofs.Scripts.{IsNextLine, ask_more, ask_no_more, read_line}
use Rattle.script_language.proofs.script.commands_of.Goals as goal
use Rattle.script_language.proofs.script.commands_of.Goals.{then-not-is_empty+in-Some-command_of+in_ok-push, else-not-is_empty}

pub loop-unread-init : goal.loop-unread-init
loop-unread-init c = search rules steps 1000000

pub returns-in_err-commands-clause-fault : goal.returns-in_err-commands-clause-fault
returns-in_err-commands-clause-fault c = search rules steps 1000000

pub returns-in_err-push-clause-fault : goal.returns-in_err-push-clause-fault
returns-in_err-push-clause-fault c = search rules steps 1500000

pub loop-unread-preserved : goal.loop-unread-preserved
loop-unread-preserved c =
    let before = c.loop-unread.invariant in
    let line = c.first_line.result.0.now in
    let next : IsNextLine c.loop-unread.unread c.first_line.result.1 line = record {
      text = c.in-Some.rest;
      is = c.in-Some.is;
      first = c.first_line.ensures.line;
      size = c.first_line.ensures.size;
    } in
    elim c.if-not-is_empty.branch [
      | then-not-is_empty+in-Some-command_of+in_ok-push w ↦
          let found = w.in-Some-command_of.ensures in
          let bytes : ¬ (line ≡ []) = λ none. search (rules, ap length none) in
          let more = ask_more before.done _ line _ before.asked bytes found.some in
          read_line _ _ _ _ _ _ _ _ line before next
          (rw w.commands-is (rw (w.push.ensures.items) (rw w.in_ok-push.was more)))
          (rw w.room-is found.left)
      | else-not-is_empty w ↦
          let none : length line ≡ 0 = search rules in
          let more = ask_no_more before.done _ line before.asked none in
          read_line _ _ _ _ _ _ _ _ line before next
          (rw w.commands-is more)
          (rw w.room-is (omega arith))
    ]
