-- The digits of a number, from the last to the first.
use Rattle.std.proofs.Common.{◌≡◌, ap, sym, ◌∙◌, ℕ, ◌+◌, ◌-◌, ◌/◌, ◌%◌, ◌^◌, ◌<◌, ◌≤◌, List, [], ◌∷◌, ◌++◌, decimal, drop, length, set, take, append_assoc, length-append, length-set, arith}
use Rattle.std.proofs.lemmas.Fmt.{decimal_digit, decimal_nonempty, decimal_step, length-decimal-le}
use Rattle.std.proofs.lemmas.List.{append-nil, drop-set, drop_all, take_rest}

-- the digits of the rest, up to this place, and those after it are the number's
pub record AreDigitsFrom (room : List ℕ) (number rest place : ℕ) : Type 0 where
  pub within : place < length room
  pub fit : length (decimal rest) ≤ place + 1
  pub digits : decimal rest ++ drop (place + 1) room ≡ decimal number

-- no digit is written yet
pub no_digit : (room : List ℕ) (number : ℕ) → length room ≡ 20 → number < 2 ^ 64
    → AreDigitsFrom room number number 19
no_digit room number size fits = record {
  within = omega (arith, size);
  fit = length-decimal-le 20 number (omega arith) (omega (arith, fits)) fits;
  digits = ap (λ l. decimal number ++ l) (drop_all 20 room (omega (arith, size)))
      ∙ append-nil (decimal number);
}

-- the rest's last digit has digits before it, and so there is a place for them
pub place_before : (room : List ℕ) (number rest place : ℕ) → 10 ≤ rest → rest < 2 ^ 64
    → AreDigitsFrom room number rest place → (1 ≤ place) × (length (decimal (rest / 10)) ≤ place)
place_before room number rest place more fits digits =
    let step = ap length (decimal_step rest more fits) ∙ length-append (decimal (rest / 10)) _ in
    let some = decimal_nonempty (rest / 10) (omega (arith, fits)) in
    (omega (arith, step, some, digits.fit), omega (arith, step, digits.fit))

-- it is written
pub one_digit : (room : List ℕ) (number rest place : ℕ) → 10 ≤ rest → rest < 2 ^ 64
    → AreDigitsFrom room number rest place
    → AreDigitsFrom (set room place (48 + rest % 10)) number (rest / 10) (place - 1)
one_digit room number rest place more fits digits =
    let before = place_before room number rest place more fits digits in
    let next : place - 1 + 1 ≡ place = omega (arith, before.0) in
    let written = drop-set room place (48 + rest % 10) digits.within in
    record {
      within = omega (arith, digits.within, length-set room place (48 + rest % 10));
      fit = omega (arith, before.1, next);
      digits = ap (λ n. decimal (rest / 10) ++ drop n (set room place (48 + rest % 10))) next
          ∙ ap (λ l. decimal (rest / 10) ++ l) written
          ∙ sym (append_assoc (decimal (rest / 10)) ((48 + rest % 10) ∷ []) (drop (place + 1) room))
          ∙ ap (λ l. l ++ drop (place + 1) room) (sym (decimal_step rest more fits))
          ∙ digits.digits;
    }

-- and the first one is
pub first_digit : (room : List ℕ) (number rest place : ℕ) → rest < 10
    → AreDigitsFrom room number rest place
    → take (length room - place) (drop place (set room place (48 + rest))) ≡ decimal number
first_digit room number rest place last digits =
    let written = set room place (48 + rest) in
    ap (λ n. take (n - place) (drop place written)) (sym (length-set room place (48 + rest)))
    ∙ take_rest written place
    ∙ drop-set room place (48 + rest) digits.within
    ∙ ap (λ l. l ++ drop (place + 1) room) (sym (decimal_digit rest last))
    ∙ digits.digits
