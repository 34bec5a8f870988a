use Rattle.inlinable_string.proofs.Common.{◌≡◌, ◌-◌, ◌≤◌, ◌++◌, arith, length, length-drop, take, take_all, drop, encode_utf8, refl, ◌∙◌}
use Rattle.std.proofs.Common.{of_calls}
use Rattle.std.proofs.lemmas.Fn.{called, filter_same}
use Rattle.inlinable_string.proofs.Retained.{all_read, dropped_more, kept_more, none_read, size-retained}
use Rattle.inlinable_string.proofs.inline_string.retained.retain_in_front.Goals.{then-keep, else-keep}
use Rattle.inlinable_string.proofs.inline_string.retained.retain_in_front.Goals as goal

pub loop-read-init : goal.loop-read-init
loop-read-init g c = (refl, search of_calls, none_read _ _ _ c.requires.utf8)

pub loop-read-preserved : goal.loop-read-preserved
loop-read-preserved g c =
    let at = c.loop-read.invariant in
    let ch = c.first_char-ch.result.0 in
    let n = c.first_char-ch.result.1 in
    let rest = drop c.loop-read.read c.loop-read.cells in
    let whole : take (length c.loop-read.cells - c.loop-read.read) rest ≡ rest =
    take_all _ rest (omega (arith, length-drop c.loop-read.read c.loop-read.cells)) in
    let first : rest ≡ encode_utf8 ch ++ drop n rest = rw whole at c.first_char-ch.ensures.bytes in
    let counted = c.first_char-ch.ensures.len in
    let inside : n ≤ length rest = rw whole at c.first_char-ch.ensures.within in
    elim c.if-keep.branch [
      | then-keep w ↦ rw (w.cells-is, w.kept-is) (
        w.move_back.auto.cells ∙ at.0,
        search of_calls,
        kept_more _ n ch _ at.2 first counted inside w.move_back.ensures.rest
            w.move_back.auto.cells _ (called g.F.FnMut c.keep.ensures w.if-keep.true)
            w.move_back.ensures.text,
      )
      | else-keep w ↦ rw (w.cells-is, w.kept-is) (
        at.0,
        search of_calls,
        dropped_more _ n ch _ at.2 first counted inside refl refl _
            (called g.F.FnMut c.keep.ensures w.if-keep.false) refl,
      )
    ]

pub returns-clause-text : goal.returns-clause-text
returns-clause-text g c =
    all_read _ (omega (arith, c.loop-read-test.false)) c.loop-read.invariant.2

pub returns-clause-bound : goal.returns-clause-bound
returns-clause-bound g c = size-retained _ _ _ _ (returns-clause-text g c)

pub returns-clause-filtered : goal.returns-clause-filtered
returns-clause-filtered g c test says = filter_same _ test _ says _ _ (returns-clause-text g c)
