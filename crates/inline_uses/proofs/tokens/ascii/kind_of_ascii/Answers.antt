use Rattle.std.proofs.Common.{◌∙◌, sym, refl, arith}
use Rattle.std.proofs.UnicodeAscii.{is_alphabetic_ascii, is_numeric_ascii}
use Rattle.std.proofs.lemmas.Bool.Decides.{nat_tests}
use Rattle.inline_uses.specs.declared.tokens.Kind.TheVariants.{Space, Word}
use Rattle.inline_uses.proofs.tokens.ascii.kind_of_ascii.Goals as goal

pub returns-then-is_of_class : goal.returns-then-is_of_class
returns-then-is_of_class c =
    let is = sym (c.is_of_class.ensures Space (λ e. cc) refl) ∙ c.if-is_of_class.true in
    let letter = is_alphabetic_ascii c.args.first c.requires in
    grind (arith, nat_tests)

pub returns-else-is_ascii_digit : goal.returns-else-is_ascii_digit
returns-else-is_ascii_digit c =
    let is = sym (c.is_of_class-2.ensures Word (λ e. cc) refl) ∙ c.if-is_of_class-2.true in
    let none = sym c.is_ascii_digit.ensures.value ∙ c.if-is_ascii_digit.false in
    let letter = is_alphabetic_ascii c.args.first c.requires in
    let number = is_numeric_ascii c.args.first c.requires in
    grind (arith, nat_tests)

pub returns-in_default : goal.returns-in_default
returns-in_default c =
    let space = sym (c.is_of_class.ensures Space (λ e. cc) refl) ∙ c.if-is_of_class.false in
    let word = sym (c.is_of_class-2.ensures Word (λ e. cc) refl) ∙ c.if-is_of_class-2.false in
    let letter = is_alphabetic_ascii c.args.first c.requires in
    let number = is_numeric_ascii c.args.first c.requires in
    grind (arith, nat_tests, c.from.ensures)
