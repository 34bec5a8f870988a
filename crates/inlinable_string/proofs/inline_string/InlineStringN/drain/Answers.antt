use Rattle.inlinable_string.proofs.Common.{◌≤◌, ◌+◌, ◌-◌, ap, ◌∙◌, arith, length, size}
use Rattle.std.specs.List.{slice_range}
use Rattle.inlinable_string.proofs.Ranges.{drained}
use Rattle.inlinable_string.proofs.inline_string.InlineStringN.drain.Goals as goal

pub range-requires-clause-start_boundary : goal.range-requires-clause-start_boundary
range-requires-clause-start_boundary g c =
    λ _. (c.as_str.ensures.places c.args.range.start).1 c.requires.start

pub range-requires-clause-end_boundary : goal.range-requires-clause-end_boundary
range-requires-clause-end_boundary g c =
    (c.as_str.ensures.places c.args.range.end).1 c.requires.end

pub returns-clause-drained : goal.returns-clause-drained
returns-clause-drained g c =
    let part = c.range.ensures.value ∙ ap (λ s. slice_range s c.args.range.start c.args.range.end)
    c.as_str.ensures.value in
    let all : size c.args.self.now ≤ g.row.N + (c.args.range.end - c.args.range.start) =
    omega (arith, c.as_str.ensures.within, ap length c.as_str.ensures.value) in
    rw c.from-drained.ensures.text
    (drained _ c.range.utf8 part c.replace_range.ensures.fits all c.replace_range.ensures.ok)
