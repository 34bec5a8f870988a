use Rattle.std.proofs.Common.{arith, sym, ◌∙◌, ◌==◌}
use Rattle.std.proofs.lemmas.Bool.{eqb-false, eqb-true}
use Rattle.std.proofs.lemmas.Simd.{none_from_empty_mask, run_in_chunk_fails, run_in_chunk_le, run_in_chunk_stops}
use Rattle.script_language.proofs.Lanes.{counted, mask_is}
use Rattle.script_language.proofs.cut.count_before.Goals as goal

pub returns-then-mask-eq0-clause-others : goal.returns-then-mask-eq0-clause-others
returns-then-mask-eq0-clause-others c k low high =
    let none = sym (mask_is _ _ _ c.requires.room) ∙ c.if-mask-eq0.true in
    eqb-false _ _ (none_from_empty_mask (λ b. b == c.args.byte) c.args.bytes.now c.args.at 16 0
    c.requires.room none k low high)

pub returns-else-mask-eq0-clause-bound : goal.returns-else-mask-eq0-clause-bound
returns-else-mask-eq0-clause-bound c =
    run_in_chunk_le (λ b. b == c.args.byte) c.args.bytes.now c.args.at 16 _ 0 c.requires.room
    (counted _ _ _ c.requires.room (omega (arith, c.if-mask-eq0.false)))

pub returns-else-mask-eq0-clause-others : goal.returns-else-mask-eq0-clause-others
returns-else-mask-eq0-clause-others c k low high =
    eqb-false _ _ (run_in_chunk_fails (λ b. b == c.args.byte) c.args.bytes.now c.args.at 16 _ 0
    c.requires.room (counted _ _ _ c.requires.room (omega (arith, c.if-mask-eq0.false))) k low high)

pub returns-else-mask-eq0-clause-there : goal.returns-else-mask-eq0-clause-there
returns-else-mask-eq0-clause-there c few =
    eqb-true _ _ (run_in_chunk_stops (λ b. b == c.args.byte) c.args.bytes.now c.args.at 16 _ 0
    c.requires.room (counted _ _ _ c.requires.room (omega (arith, c.if-mask-eq0.false))) few)
