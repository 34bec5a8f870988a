use Rattle.inlinable_string.proofs.Common.{refl}
use Rattle.inlinable_string.proofs.WellFormed.{read_block, read_to_end, ascii_block, last_ascii, is_text, no_text}
use Rattle.std.proofs.Common.{ap, arith, nat_eq}
use Rattle.std.proofs.lemmas.Bool.{false≢true}
use Rattle.inlinable_string.proofs.well_formed.is_utf8.Goals as goal

pub loop-front-preserved : goal.loop-front-preserved
loop-front-preserved c =
    read_block _ _ _ _ _ _ c.loop-front.invariant c.split_at.ensures.by_index.0
    (ascii_block _ 0 refl (c.is_ascii.ensures.0 c.if-not-is_ascii.false))

pub returns-then-bits-eq-NO_TEXT : goal.returns-then-bits-eq-NO_TEXT
returns-then-bits-eq-NO_TEXT c =
    let parts = c.split_at-in-loop-rest.ensures.by_index.0 in (
      (λ false_is. absurd (false≢true false_is)),
      (λ text. absurd
          (no_text _ _ _
          (read_block _ _ _ _ _ _ c.loop-rest.invariant parts c.read_block-bits.ensures)
          c.if-bits-eq-NO_TEXT.true text)),
    )

pub loop-rest-preserved-else-bits-eq-NO_TEXT : goal.loop-rest-preserved-else-bits-eq-NO_TEXT
loop-rest-preserved-else-bits-eq-NO_TEXT c =
    read_block _ _ _ _ _ _ c.loop-rest.invariant c.split_at-in-loop-rest.ensures.by_index.0
    c.read_block-bits.ensures

pub loop-rest-preserved : goal.loop-rest-preserved
loop-rest-preserved c =
    let ascii = c.is_ascii-else-bits-ne0.ensures.0 c.if-not-is_ascii-2.false in
    read_block _ _ _ _ _ _ c.loop-rest.invariant c.split_at-in-loop-rest.ensures.by_index.0
    (ascii_block _ _ c.if-bits-ne0.false ascii)

pub returns-then-is_ascii : goal.returns-then-is_ascii
returns-then-is_ascii c =
    let ascii = last_ascii _ _ _ _ c.loop-rest.invariant
    (omega (arith, c.loop-rest-test.false, c.if-bytes-ge-LANES.true))
    (c.is_ascii-then-bytes-ge-LANES.ensures.0 c.if-is_ascii.true) in
    let end = ascii_block _ _ c.if-bits-eq0.true ascii in
    let text = is_text _ _ (read_to_end _ _ _ _ c.loop-rest.invariant end) in
    ((λ e. text.0 (ap (λ n. nat_eq n 0) c.if-bits-eq0.true)), (λ u. refl))

pub returns : goal.returns
returns c = is_text _ _ (read_to_end _ _ _ _ c.loop-rest.invariant c.read.ensures)
