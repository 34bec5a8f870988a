use Rattle.std.proofs.Common.{sym, subst, ◌∙◌}
use Rattle.std.specs.Str.Iter.{LacksByte}
use Rattle.script_language.specs.Line.{IsNumberText, space}
use Rattle.script_language.proofs.Cuts.{digits_lack_space, has_mark, same_cut}
use Rattle.script_language.proofs.line.number_and_rest.Goals as goal

pub returns-in_err-digits-clause-none : goal.returns-in_err-digits-clause-none
returns-in_err-digits-clause-none c =
    rw c.from_residual.ensures (λ digits behind is number written.
    has_mark space digits behind (subst (LacksByte space) is c.in_err-digits.ensures.none))

pub returns-in_err-number_of-clause-none : goal.returns-in_err-number_of-clause-none
returns-in_err-number_of-clause-none c =
    let cut = c.in_ok-digits.ensures.some in
    rw c.from_residual-in_err-number_of.ensures (λ digits behind is number written.
    let lacks = digits_lack_space digits written.numeral.1 in
    let same = same_cut _ _ _ _ cut.first lacks (sym cut.joined ∙ is) in
    c.in_err-number_of.ensures.none number
    (subst (λ d. IsNumberText d number) (sym same.0) written))
