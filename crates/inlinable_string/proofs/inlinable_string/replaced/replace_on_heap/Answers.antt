use Rattle.inlinable_string.proofs.Common.{arith, on_ok_weaker, IsUtf8-string_bytes}
use Rattle.inlinable_string.proofs.Text.{holds_chars, place_within, size-string, split_point}
use Rattle.inlinable_string.proofs.Ranges.{ok_where_it_fits, range-bytes, range-chars}
use Rattle.inlinable_string.proofs.inlinable_string.replaced.replace_on_heap.Goals as goal

pub replace_range-requires-clause-in_bounds : goal.replace_range-requires-clause-in_bounds
replace_range-requires-clause-in_bounds c =
    omega (arith, place_within _ _ c.requires.end, size-string c.args.text.now)

pub replace_range-requires-clause-start_boundary :
    goal.replace_range-requires-clause-start_boundary
replace_range-requires-clause-start_boundary c =
    split_point (IsUtf8-string_bytes c.args.text.now) c.requires.start

pub replace_range-requires-clause-end_boundary : goal.replace_range-requires-clause-end_boundary
replace_range-requires-clause-end_boundary c =
    split_point (IsUtf8-string_bytes c.args.text.now) c.requires.end

pub returns-clause-text : goal.returns-clause-text
returns-clause-text c =
    let h = holds_chars (IsUtf8-string_bytes c.args.text.now) in
    let u = holds_chars c.utf8.added in
    on_ok_weaker c.replace_range.result
    (range-chars h u c.requires.start c.requires.end c.requires.order)
    c.replace_range.ensures.bytes

pub returns-clause-bytes : goal.returns-clause-bytes
returns-clause-bytes c =
    let h = holds_chars (IsUtf8-string_bytes c.args.text.now) in
    let u = holds_chars c.utf8.added in
    on_ok_weaker c.replace_range.result
    (range-bytes h u c.requires.start c.requires.end c.requires.order)
    c.replace_range.ensures.bytes

pub returns-clause-granted : goal.returns-clause-granted
returns-clause-granted c h =
    ok_where_it_fits c.replace_range.result c.replace_range.ensures.full (rw size-string at h)
