use Rattle.inlinable_string.proofs.Common.{◌≤◌, ℕ, Option, Some, None, IfSome, arith}
use Rattle.std.specs.Option.{SomeIff}
use Rattle.std.proofs.lemmas.List.{at_drop_all}
use Rattle.inlinable_string.proofs.LossyText.{most, within_most}
use Rattle.inlinable_string.proofs.string_ext.utf8.room_for.Goals as goal

-- what a sum is no less than, where it fits
within : (sum : Option ℕ) (Fits : Type 0) (n m : ℕ) → SomeIff sum Fits n → m ≤ n
    → IfSome sum (λ s. m ≤ s)
within None Fits n m is less = tt
within (Some s) Fits n m is less = omega (arith, is.1)

pub returns : goal.returns
returns c =
    let bytes = c.args.bytes.now in
    let all = at_drop_all most bytes c.loop-start.start (omega arith) in
    within _ _ _ _ c.checked_add.ensures (omega (arith, all, within_most bytes))
