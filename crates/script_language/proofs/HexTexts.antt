-- Digits that are written for bytes, two for each.
use Rattle.std.proofs.Common.{◌≡◌, ap, sym, subst, ◌∙◌, ℕ, zero, suc, ◌+◌, ◌*◌, ◌<◌, ◌≤◌, List, [], ◌∷◌, ◌++◌, All, length, map, take, set, get_or, length-set, arith}
use Rattle.std.proofs.lemmas.List.{map-append, take_all, take_more, take_more_set}
use Rattle.std.proofs.lemmas.List.Elements.{All-head, All-push, All-tail}
use Rattle.std.specs.Simd.{first_chunks}
use Rattle.std.specs.Str.Parse.{AllDigits, digits_value}
use Rattle.script_language.specs.Line.{IsHexText}

-- digits are those of their pairs
pub digits-from_pairs : (n : ℕ) (digits : List ℕ) → length digits ≡ 2 * n
    → All (AllDigits 16) (first_chunks 2 n digits) → AllDigits 16 digits
digits-from_pairs zero [] even all = tt
digits-from_pairs zero (a ∷ digits) even all = absurd (omega (arith, even))
digits-from_pairs (suc n) [] even all = absurd (omega (arith, even))
digits-from_pairs (suc n) (a ∷ []) even all = absurd (omega (arith, even))
digits-from_pairs (suc n) (a ∷ b ∷ digits) even all =
    let pair = All-head (AllDigits 16) (a ∷ b ∷ []) (first_chunks 2 n digits) all in
    let rest = All-tail (AllDigits 16) (a ∷ b ∷ []) (first_chunks 2 n digits) all in
    (pair.0, (pair.1.0, digits-from_pairs n digits (omega (arith, even)) rest))

-- and the pair at i is of digits
pub pair_at : (digits : List ℕ) (n i : ℕ) → AllDigits 16 digits
    → AllDigits 16 (get_or (first_chunks 2 n digits) i [])
pair_at digits zero zero all = tt
pair_at digits zero (suc i) all = tt
pair_at [] (suc n) zero all = tt
pair_at (a ∷ []) (suc n) zero all = all
pair_at (a ∷ b ∷ digits) (suc n) zero all = (all.0, (all.1.0, tt))
pair_at [] (suc n) (suc i) all = pair_at [] n i tt
pair_at (a ∷ []) (suc n) (suc i) all = pair_at [] n i tt
pair_at (a ∷ b ∷ digits) (suc n) (suc i) all = pair_at digits n i all.1.1

-- the bytes so far are those of the pairs so far, which are of digits
pub record AreBytesTo (pairs : List (List ℕ)) (bytes : List ℕ) (i : ℕ) : Type 0 where
  pub room : length bytes ≡ length pairs
  pub digits : All (AllDigits 16) (take i pairs)
  pub values : take i bytes ≡ map (digits_value 16) (take i pairs)

-- one byte more
pub bytes_to_next : (pairs : List (List ℕ)) (bytes : List ℕ) (i byte : ℕ) → i < length pairs
    → AreBytesTo pairs bytes i → AllDigits 16 (get_or pairs i [])
    → byte ≡ digits_value 16 (get_or pairs i [])
    → AreBytesTo pairs (set bytes i byte) (i + 1)
bytes_to_next pairs bytes i byte within before pair value =
    let more = take_more pairs i [] within in
    let all = All-push (AllDigits 16) (take i pairs) (get_or pairs i []) before.digits pair in
    record {
      room = length-set bytes i byte ∙ before.room;
      digits = subst (All (AllDigits 16)) (sym more) all;
      values = take_more_set bytes i byte (omega (arith, before.room))
          ∙ ap (λ l. l ++ byte ∷ []) before.values
          ∙ ap (λ b. map (digits_value 16) (take i pairs) ++ b ∷ []) value
          ∙ sym (map-append (digits_value 16) (take i pairs) (get_or pairs i [] ∷ []))
          ∙ ap (map (digits_value 16)) (sym more);
    }

-- all bytes of digits whose number is even
pub hex_text-from_bytes : (digits bytes : List ℕ) (n i : ℕ) → length digits ≡ 2 * n
    → length (first_chunks 2 n digits) ≡ n → n ≤ i
    → AreBytesTo (first_chunks 2 n digits) bytes i → IsHexText digits bytes
hex_text-from_bytes digits bytes n i even size all done =
    let pairs = first_chunks 2 n digits in
    let whole : take i pairs ≡ pairs = take_all i pairs (omega (arith, size)) in
    let count : n ≡ length bytes = omega (arith, size, done.room) in
    record {
      hexadecimal = digits-from_pairs n digits even (subst (All (AllDigits 16)) whole done.digits);
      pairs = even ∙ ap (λ m. 2 * m) count;
      values = sym (take_all i bytes (omega (arith, count)))
          ∙ done.values
          ∙ ap (map (digits_value 16)) whole
          ∙ ap (λ m. map (digits_value 16) (first_chunks 2 m digits)) count;
    }
