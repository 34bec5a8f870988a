use Rattle.inlinable_string.proofs.Common.{common_steps, rules, arith}
use Rattle.inlinable_string.proofs.Cut.{not_from_test}
use Rattle.inlinable_string.proofs.Steps.{insert_str_refused, insert_str_misplaced}
use Rattle.inlinable_string.proofs.run.insert_str.Goals as goal

pub returns-in-Err : goal.returns-in-Err
returns-in-Err g c laws = grind (arith, common_steps, insert_str_refused)

pub returns-else-is_char_boundary : goal.returns-else-is_char_boundary
returns-else-is_char_boundary g c laws = search (rules, not_from_test, insert_str_misplaced)
