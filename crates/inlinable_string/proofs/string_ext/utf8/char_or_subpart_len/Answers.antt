use Rattle.inlinable_string.proofs.Common.{arith, ⊎_elim, slice_index}
use Rattle.inlinable_string.proofs.Table.{none_in, none_above}
use Rattle.inlinable_string.proofs.Starts.{ascii, rowless, second, no_second, next, no_next, complete}
use Rattle.inlinable_string.proofs.string_ext.utf8.char_or_subpart_len.Goals as goal

pub returns-then-first-lt128-clause-len : goal.returns-then-first-lt128-clause-len
returns-then-first-lt128-clause-len c =
    (ascii _ c.requires c.if-first-lt128.true, omega arith, omega arith)

pub returns-then-first-lt194-clause-len : goal.returns-then-first-lt194-clause-len
returns-then-first-lt194-clause-len c =
    let first = slice_index c.args.bytes.now 0 in
    let none = ⊎_elim (λ h. none_in first h) (λ h. none_above first (omega (arith, h)))
    c.then-first-lt194.either in
    let alone = rowless _ c.requires c.if-first-lt128.false none in
    (alone.0, alone.1, omega arith)

pub returns-then-not-second_in_range-clause-len : goal.returns-then-not-second_in_range-clause-len
returns-then-not-second_in_range-clause-len c =
    let cut = no_second _ c.requires c.if-first-lt194.false c.if-first-gt244.false
    c.if-not-second_in_range.ensures in
    (cut.0, cut.1, omega arith)

pub returns-then-first-lt224-clause-len : goal.returns-then-first-lt224-clause-len
returns-then-first-lt224-clause-len c =
    let two = second _ c.requires c.if-first-lt194.false c.if-first-gt244.false
    c.if-not-second_in_range.ensures in
    (complete _ 1 two (omega arith) (omega arith), omega arith, omega arith)

pub returns-then-not-byte_in_range-clause-len : goal.returns-then-not-byte_in_range-clause-len
returns-then-not-byte_in_range-clause-len c =
    let two = second _ c.requires c.if-first-lt194.false c.if-first-gt244.false
    c.if-not-second_in_range.ensures in
    let cut = no_next _ 1 two (omega arith) c.if-not-byte_in_range.ensures in
    (cut.0, cut.1, omega arith)

pub returns-then-first-lt240-clause-len : goal.returns-then-first-lt240-clause-len
returns-then-first-lt240-clause-len c =
    let two = second _ c.requires c.if-first-lt194.false c.if-first-gt244.false
    c.if-not-second_in_range.ensures in
    let three = next _ 1 two (omega arith) c.if-not-byte_in_range.ensures in
    (complete _ 2 three (omega arith) (omega arith), omega arith, omega arith)

pub returns-then-byte_in_range-clause-len : goal.returns-then-byte_in_range-clause-len
returns-then-byte_in_range-clause-len c =
    let two = second _ c.requires c.if-first-lt194.false c.if-first-gt244.false
    c.if-not-second_in_range.ensures in
    let three = next _ 1 two (omega arith) c.if-not-byte_in_range.ensures in
    let four = next _ 2 three (omega arith) c.if-byte_in_range.ensures in
    (complete _ 3 four (omega arith) (omega arith), omega arith, omega arith)

pub returns-else-byte_in_range-clause-len : goal.returns-else-byte_in_range-clause-len
returns-else-byte_in_range-clause-len c =
    let two = second _ c.requires c.if-first-lt194.false c.if-first-gt244.false
    c.if-not-second_in_range.ensures in
    let three = next _ 1 two (omega arith) c.if-not-byte_in_range.ensures in
    let cut = no_next _ 2 three (omega arith) c.if-byte_in_range.ensures in
    (cut.0, cut.1, omega arith)
