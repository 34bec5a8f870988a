use Rattle.std.proofs.Common.{◌+◌, ◌-◌, ◌%◌, ◌∙◌, ap, drop, length-set, set, sym, take}
use Rattle.script_language.proofs.Decimals.{first_digit, no_digit, one_digit, place_before}
use Rattle.script_language.proofs.output.decimal_digits.Goals as goal

pub loop-rest-init : goal.loop-rest-init
loop-rest-init c = (c.told-room, no_digit c.args.room.now _ c.told-room c.ranges.number.fits)

pub overflow_sub-start-in-loop-rest : goal.overflow_sub-start-in-loop-rest
overflow_sub-start-in-loop-rest c =
    let l = c.loop-rest in
    let before = place_before _ _ _ _ c.loop-rest-test.true l.auto.rest-fits.fits l.invariant.1 in
    before.0

pub loop-rest-preserved : goal.loop-rest-preserved
loop-rest-preserved c =
    let l = c.loop-rest in (
      length-set l.room l.start (48 + l.rest % 10) ∙ l.invariant.0,
      one_digit _ _ _ _ c.loop-rest-test.true l.auto.rest-fits.fits l.invariant.1,
    )

pub returns : goal.returns
returns c =
    let l = c.loop-rest in
    let digits = first_digit _ _ _ _ c.loop-rest-test.false l.invariant.1 in
    let room = set l.room l.start (48 + l.rest) in
    ap (λ n. take (n - l.start) (drop l.start room)) (sym l.invariant.0) ∙ digits
