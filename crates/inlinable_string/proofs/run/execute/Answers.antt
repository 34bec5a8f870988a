use Rattle.std.proofs.Common.{rules}
use Rattle.inlinable_string.proofs.Cut.{not_from_test}
use Rattle.inlinable_string.proofs.Steps.{insert_refused, insert_misplaced, truncate_misplaced, remove_misplaced, remove_at_end}
use Rattle.inlinable_string.proofs.run.execute.Goals as goal

pub returns-in-Err-insert : goal.returns-in-Err-insert
returns-in-Err-insert g c laws =
    let place = c.is_char_boundary.ensures.0 c.if-is_char_boundary.true in
    let e = c.in-Err-insert.ensures in
    rw c.in-Insert.is (insert_refused _ _ _ _ laws place e.err e.inline_granted e.policy)

pub returns-else-is_char_boundary : goal.returns-else-is_char_boundary
returns-else-is_char_boundary g c laws =
    let none = not_from_test _ c.is_char_boundary.ensures c.if-is_char_boundary.false in
    rw c.in-Insert.is (insert_misplaced _ _ _ none)

pub returns-else-is_char_boundary-2 : goal.returns-else-is_char_boundary-2
returns-else-is_char_boundary-2 g c laws =
    let test = c.is_char_boundary-in-Truncate.ensures in
    let none = not_from_test _ test c.if-is_char_boundary-2.false in
    rw c.in-Truncate.is (truncate_misplaced _ _ none)

pub returns-then-not-is_char_boundary : goal.returns-then-not-is_char_boundary
returns-then-not-is_char_boundary g c laws =
    let test = c.is_char_boundary-in-Remove.ensures in
    let none = not_from_test _ test c.if-not-is_char_boundary.true in
    rw c.in-Remove.is (remove_misplaced _ _ none)

pub returns-else-idx-len : goal.returns-else-idx-len
returns-else-idx-len g c laws = search (rules, remove_at_end)
