-- The lossy reading of UTF-8 written as bytes: how far it is written, and the room that it takes.
use Rattle.inlinable_string.proofs.Common.{common_steps, ◌≡◌, ℕ, zero, suc, ◌+◌, ◌-◌, ◌<◌, ◌≤◌, nat_eq, nat_lt, List, [], ◌∷◌, ◌++◌, true, false, length, take, drop, refl, ap, sym, ◌∙◌, arith, subst, ⊎_elim, append_assoc, append-nil, take-append-drop, if◌then◌else◌, cases_Bool, cases_lt, cond-true, nat_tests, eqb-true, chars, chars-nil, chars-append, IsUtf8, IsUtf8-append, size, char_len, subpart_len, lossy_utf8_past, lossy_utf8}
use Rattle.std.proofs.lemmas.Str.{IsUtf8-nil}
use Rattle.inlinable_string.proofs.Text.{size-append, size-chars}
use Rattle.inlinable_string.proofs.Subparts.{one_more, lossy_valid, no_char, replaced-chars}
use Rattle.inlinable_string.proofs.Starts.{ascii}

-- a character at the front
pub char_front : (bs : List ℕ) (k : ℕ) → char_len bs ≡ k → 0 < k → IsUtf8 (take k bs)
char_front bs k is some =
    let all : 0 + k ≡ k = omega arith in
    subst (λ n. IsUtf8 (take n bs)) all (one_more bs 0 k IsUtf8-nil is some)

-- what text at the front is read as
run_read : (bs : List ℕ) (k : ℕ) → IsUtf8 (take k bs)
    → lossy_utf8 bs ≡ chars (take k bs) ++ lossy_utf8 (drop k bs)
run_read bs k u =
    ap lossy_utf8 (sym (take-append-drop k bs)) ∙ lossy_valid (take k bs) (drop k bs) u

-- the code of U+FFFD
replacement : IsUtf8 (0xEF ∷ 0xBF ∷ 0xBD ∷ [])
unfolding lib.Utf8.encode
replacement = (0xFFFD ∷ [], (refl, refl))

replaced_size : (t : List ℕ) → size (0xFFFD ∷ t) ≡ 3 + size t
unfolding lib.Utf8.encode
replaced_size t = size-append (0xFFFD ∷ []) t

-- the text of bs is written before end, without that of the rest
pub record Written (bs rest made : List ℕ) (end : ℕ) : Type 0 where
  pub within : end ≤ length made
  pub utf8 : IsUtf8 (take end made)
  pub text : chars (take end made) ++ lossy_utf8 rest ≡ lossy_utf8 bs

-- nothing is written
pub at_start : (bs made : List ℕ) → Written bs bs made 0
at_start bs made = grind (arith, common_steps, chars-nil)

-- all is
pub at_end : (bs rest made : List ℕ) (end : ℕ) → Written bs rest made end → length rest ≤ 0
    → chars (take end made) ≡ lossy_utf8 bs
at_end bs [] made end so none = sym (append-nil (chars (take end made))) ∙ so.text
at_end bs (x ∷ rest) made end so none = absurd (omega (arith, none))

size_left : (bs rest made : List ℕ) (end : ℕ) → Written bs rest made end
    → end + size (lossy_utf8 rest) ≡ size (lossy_utf8 bs)
size_left bs rest made end so =
    grind (arith, common_steps, size-append, size-chars (take end made) so.utf8)

-- there is room for the text that comes
pub run_room : (bs rest made : List ℕ) (end k : ℕ) → Written bs rest made end
    → size (lossy_utf8 bs) ≤ length made → IsUtf8 (take k rest) → k ≤ length rest
    → end + k ≤ length made
run_room bs rest made end k so room u within =
    let sizes = size_left bs rest made end so in
    grind (arith, common_steps, run_read rest k u, size-append, size-chars (take k rest) u)

-- for U+FFFD too, where none comes
pub fault_room : (bs rest made : List ℕ) (end : ℕ) → Written bs rest made end
    → size (lossy_utf8 bs) ≤ length made → char_len rest ≡ 0 → 0 < length rest
    → end + 3 ≤ length made
fault_room bs rest made end so room none some =
    let sizes = size_left bs rest made end so in
    grind (arith, common_steps, no_char rest some none, replaced_size)

-- text more
pub run_written : (bs rest made new : List ℕ) (end k : ℕ) → Written bs rest made end
    → IsUtf8 (take k rest) → end + k ≤ length new
    → take (end + k) new ≡ take end made ++ take k rest → Written bs (drop k rest) new (end + k)
run_written bs rest made new end k so u within front =
    let both = chars-append (take end made) (take k rest) so.utf8 in
    grind (arith, common_steps, both, run_read rest k u, IsUtf8-append _ _ so.utf8 u)

-- a maximal subpart more
pub fault_written : (bs rest made new : List ℕ) (end k : ℕ) → Written bs rest made end
    → char_len rest ≡ 0 → subpart_len rest ≡ k → 0 < length rest → end + 3 ≤ length new
    → take (end + 3) new ≡ take end made ++ 0xEF ∷ 0xBF ∷ 0xBD ∷ []
    → Written bs (drop k rest) new (end + 3)
fault_written bs rest made new end k so none is some within front =
    let u = subst IsUtf8 (sym front) (IsUtf8-append _ _ so.utf8 replacement) in
    let more = replaced-chars _ _ u so.utf8 front in
    let fault = no_char rest some none in
    record { within = within; utf8 = u; text = grind (arith, append_assoc, more, fault) }

-- the most bytes that the text can have: each byte that is not ASCII may be replaced
abbrev pub most : List ℕ → ℕ
most [] = 0
most (b ∷ bs) = (if nat_lt b 128 then 1 else 3) + most bs

most_front : (n : ℕ) (bs : List ℕ) → length (take n bs) + most (drop n bs) ≤ most bs
most_front zero bs = omega arith
most_front (suc n) [] = omega arith
most_front (suc n) (b ∷ bs) = let rest = most_front n bs in grind (arith, nat_tests)

the_suc : (k : ℕ) → 0 < k → k ≡ suc (k - 1)
the_suc k some = omega arith

at_least : (b : ℕ) (bs : List ℕ) → 1 + most bs ≤ most (b ∷ bs)
at_least b bs = grind (arith, nat_tests)

-- the bytes from a maximal subpart on
no_char_within : (b : ℕ) (bs : List ℕ) → nat_eq (char_len (b ∷ bs)) 0 ≡ true
    → size (lossy_utf8_past (subpart_len (b ∷ bs) - 1) bs)
    ≤ most (drop (subpart_len (b ∷ bs) - 1) bs) → size (lossy_utf8 (b ∷ bs)) ≤ most (b ∷ bs)
no_char_within b bs none past =
    let k = subpart_len (b ∷ bs) - 1 in
    let is : lossy_utf8 (b ∷ bs) ≡ 0xFFFD ∷ lossy_utf8_past k bs = cond-true _ _ _ none in
    let no : char_len (b ∷ bs) ≡ 0 = eqb-true _ _ none in
    let other : 128 ≤ b =
    ⊎_elim (λ below. absurd (omega (arith, no, ascii (b ∷ bs) (omega arith) below))) (λ h. h)
    (cases_lt b 128) in
    let three : most (b ∷ bs) ≡ 3 + most bs = grind (arith, nat_tests, other) in
    omega (arith, three, ap size is, replaced_size (lossy_utf8_past k bs), past, most_front k bs)

-- the bytes from a character on
char_within : (b : ℕ) (bs : List ℕ) → nat_eq (char_len (b ∷ bs)) 0 ≡ false
    → size (lossy_utf8_past (char_len (b ∷ bs) - 1) bs) ≤ most (drop (char_len (b ∷ bs) - 1) bs)
    → size (lossy_utf8 (b ∷ bs)) ≤ most (b ∷ bs)
char_within b bs some past =
    grind (arith, common_steps, at_least, char_front, most_front, size-append, size-chars, the_suc)

past_most : (n : ℕ) (bs : List ℕ) → size (lossy_utf8_past n bs) ≤ most (drop n bs)
past_most n [] = omega arith
past_most (suc n) (b ∷ bs) = past_most n bs
past_most zero (b ∷ bs) =
    ⊎_elim
    (λ none. no_char_within b bs none (past_most (subpart_len (b ∷ bs) - 1) bs))
    (λ some. char_within b bs some (past_most (char_len (b ∷ bs) - 1) bs))
    (cases_Bool (nat_eq (char_len (b ∷ bs)) 0))

-- a bound on its bytes
pub within_most : (bs : List ℕ) → size (lossy_utf8 bs) ≤ most bs
within_most bs = past_most 0 bs
