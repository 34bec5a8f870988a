use Rattle.inlinable_string.proofs.Common.{length, arith, refl}
use Rattle.inlinable_string.proofs.Counted.{counted, last_counts, some_unpaired}
use Rattle.inlinable_string.proofs.string_ext.utf16.count.Goals as goal

pub returns-clause-len : goal.returns-clause-len
returns-clause-len c =
    let v = c.args.units.now in
    let whole = counted v (λ i. let fits = c.type_inv.units i in omega arith) (length v) refl in
    let last =
    last_counts v _ (length v) _ c.from.ensures c.is_high.ensures (omega arith) in
    let part = c.count_part-part-2.ensures in
    omega (arith, whole, last, part.len, part.unpaired)

pub returns-clause-unpaired : goal.returns-clause-unpaired
returns-clause-unpaired c =
    let v = c.args.units.now in
    let last =
    last_counts v _ (length v) _ c.from.ensures c.is_high.ensures (omega arith) in
    let part = c.count_part-part-2.ensures in
    some_unpaired v (length v) _ refl (omega (arith, last, part.unpaired))
