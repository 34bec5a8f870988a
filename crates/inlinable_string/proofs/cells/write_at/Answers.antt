use Rattle.inlinable_string.proofs.Common.{arith, rules, places, same_lists}
use Rattle.inlinable_string.proofs.cells.write_at.Goals as goal

pub returns-clause-behind : goal.returns-clause-behind
returns-clause-behind c =
    rw c.copy_from_slice.ensures.after
    (same_lists _ _ (search (rules, places)) (λ k d h. grind (arith, places)))
