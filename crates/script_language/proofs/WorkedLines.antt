-- Lines that the prover works out.
use Rattle.std.proofs.Common.{◌≡◌, ℕ, ◌≤◌, ◌<◌, ◌^◌, List, length}
use Rattle.std.specs.Str.Parse.{IsNumeral, digits_value}
use Rattle.script_language.specs.Line.{IsNumberText}
use Rattle.script_language.specs.declared.line.TheConstants.{MOST_DIGITS}

-- a number's text, by what each part of that says
pub number_text : (digits : List ℕ) (number : ℕ) → IsNumeral 10 digits
    → length digits ≤ MOST_DIGITS → number ≡ digits_value 10 digits → number < 2 ^ 64
    → IsNumberText digits number
number_text digits number numeral short value bounded = record {
  numeral = numeral;
  short = short;
  value = value;
  bounded = bounded;
}
