-- Bytes read as text: characters, and the maximal subparts between them.
use Rattle.inlinable_string.proofs.Common.{common_steps, ◌≡◌, ℕ, zero, suc, ◌+◌, ◌-◌, ◌<◌, ◌≤◌, true, false, Bool, cond, List, [], ◌∷◌, ◌++◌, length, take, drop, refl, ap, sym, ◌∙◌, arith, append-nil, length-append, take-append-drop, length-take, rules, encode_utf8, IsScalar, chars, IsUtf8, is_utf8, all_scalars, encode_utf8_all, cases_Bool, and_parts, nat_tests, take_at, drop_at, IsUtf8-from_is_utf8, is_utf8-from_IsUtf8, IsUtf8-encode, IsUtf8-append, length-encode, len_utf8_bounds, encode_same, scalars-chars, encodes-chars, char_len, subpart_len, lossy_utf8_past, lossy_utf8}
use Rattle.std.proofs.Math.Seq.{take-add}
use Rattle.inlinable_string.proofs.Text.{popped-chars}
use Rattle.inlinable_string.proofs.Window.{chars_one}

-- a character c begins the bytes, and rest follows it
pub record Begins (bs : List ℕ) (c : ℕ) (rest : List ℕ) : Type 0 where
  pub scalar : IsScalar c
  pub joined : bs ≡ encode_utf8 c ++ rest

-- UTF-8 that is not empty begins with a character, and UTF-8 follows it
pub first_of : (bs : List ℕ) → 0 < length bs → IsUtf8 bs
    → (c : ℕ) × (rest : List ℕ) × Begins bs c rest × IsUtf8 rest
first_of bs some ([], (s, e)) = let none = ap length e in absurd (omega arith)
first_of bs some (c ∷ cs, (s, e)) = grind (arith, common_steps, and_parts)

-- so does what has UTF-8 at its front, and the character is no longer than that
front : (bs : List ℕ) (k : ℕ) → 0 < length bs → 0 < k → is_utf8 (take k bs) ≡ true
    → (c : ℕ) × (rest : List ℕ) × Begins bs c rest × (length (encode_utf8 c) ≤ k)
front bs k some pos h =
    let l = length-take k bs in
    let f = first_of (take k bs) (omega (arith, l)) (IsUtf8-from_is_utf8 _ h) in
    let joined = f.2.joined in
    let begins : Begins bs f.0 (f.1 ++ drop k bs) =
    grind (arith, common_steps, f.2.scalar, joined, take-append-drop k bs) in
    let short = length-append (encode_utf8 f.0) f.1 in
    (f.0, f.1 ++ drop k bs, begins, omega (arith, l, ap length joined, short))

positive : (c : ℕ) → 0 < length (encode_utf8 c)
positive c = omega (arith, length-encode c, len_utf8_bounds c)

-- the first of four tests that passes
abbrev first_passed : (ℕ → Bool) → ℕ
first_passed p = cond (p 1) 1 (cond (p 2) 2 (cond (p 3) 3 (cond (p 4) 4 0)))

passed : (p : ℕ → Bool) (n : ℕ) → 0 < n → n ≤ 4 → p n ≡ true
    → ((k : ℕ) → 0 < k → k < n → p k ≡ false) → first_passed p ≡ n
passed p n a b t f = grind (arith, common_steps)

none_passed : (p : ℕ → Bool) → ((k : ℕ) → 0 < k → p k ≡ false) → first_passed p ≡ 0
none_passed p f = grind (arith, common_steps)

first_passes : (p : ℕ → Bool) → 0 < first_passed p → p (first_passed p) ≡ true
first_passes p some = grind (arith, common_steps)

nonempty : (bs : List ℕ) (c : ℕ) (rest : List ℕ) → Begins bs c rest → 0 < length bs
nonempty bs c rest b = grind (arith, common_steps, positive)

-- no shorter front of a character is UTF-8
shorter : (bs : List ℕ) (c : ℕ) (rest : List ℕ) → Begins bs c rest → (k : ℕ) → 0 < k
    → k < length (encode_utf8 c) → is_utf8 (take k bs) ≡ false
shorter bs c rest b k pos less = search (rules, front, nonempty, encode_same, cases_Bool)

pub len_of_char : (bs : List ℕ) (c : ℕ) (rest : List ℕ) → Begins bs c rest
    → char_len bs ≡ length (encode_utf8 c)
len_of_char bs c rest b =
    let n = length (encode_utf8 c) in
    let whole : take n bs ≡ encode_utf8 c = rw b.joined (take_at (encode_utf8 c) rest n refl) in
    passed (λ k. is_utf8 (take k bs)) n (positive c)
    (omega (arith, length-encode c, len_utf8_bounds c))
    (rw whole (is_utf8-from_IsUtf8 _ (IsUtf8-encode c b.scalar))) (shorter bs c rest b)

-- no character begins the bytes
abbrev pub BeginsNone : List ℕ → Type 0
BeginsNone bs = (c : ℕ) (rest : List ℕ) → Begins bs c rest → ⊥

pub len_of_none : (bs : List ℕ) → 0 < length bs → BeginsNone bs → char_len bs ≡ 0
len_of_none bs some none =
    none_passed (λ k. is_utf8 (take k bs))
    (λ k pos. search (rules, front, none, cases_Bool, some, pos))

-- to pass over bytes is to drop them
past : (n : ℕ) (bs : List ℕ) → lossy_utf8_past n bs ≡ lossy_utf8 (drop n bs)
past zero bs = refl
past (suc n) [] = refl
past (suc n) (b ∷ bs) = past n bs

one_less : (n : ℕ) (b : ℕ) (bs : List ℕ) → 0 < n → drop (n - 1) bs ≡ drop n (b ∷ bs)
one_less zero b bs h = absurd (omega arith)
one_less (suc n) b bs h = let e : suc n - 1 ≡ n = omega arith in ap (λ k. drop k bs) e

-- where a character begins, it comes
of_char : (bs : List ℕ) (c : ℕ) (rest : List ℕ) → Begins bs c rest → 0 < length bs
    → lossy_utf8 bs ≡ c ∷ lossy_utf8 rest
of_char [] c rest b h = absurd (omega arith)
of_char (x ∷ bs) c rest b h =
    let n = length (encode_utf8 c) in
    let l : char_len (x ∷ bs) ≡ n = len_of_char _ c rest b in
    let whole = take_at (encode_utf8 c) rest n refl in
    let left = drop_at (encode_utf8 c) rest n refl in
    let code = chars_one c _ (IsUtf8-encode c b.scalar) refl in
    let less = one_less n x bs (positive c) in
    grind (arith, nat_tests, l, positive c, b.joined, whole, left, code, less, past (n - 1) bs)

pub lossy_char : (c : ℕ) (rest : List ℕ) → IsScalar c
    → lossy_utf8 (encode_utf8 c ++ rest) ≡ c ∷ lossy_utf8 rest
lossy_char c rest s = search (rules, of_char, nonempty)

lossy_front : (cs rest : List ℕ) → all_scalars cs ≡ true
    → lossy_utf8 (encode_utf8_all cs ++ rest) ≡ cs ++ lossy_utf8 rest
lossy_front [] rest s = refl
lossy_front (c ∷ cs) rest s = grind (arith, common_steps, lossy_char, lossy_front cs rest)

-- UTF-8 at the front is read as the text that it is
pub lossy_valid : (valid rest : List ℕ) → IsUtf8 valid
    → lossy_utf8 (valid ++ rest) ≡ chars valid ++ lossy_utf8 rest
lossy_valid valid rest u =
    ap (λ v. lossy_utf8 (v ++ rest)) (sym (encodes-chars valid u))
    ∙ lossy_front (chars valid) rest (scalars-chars valid u)

pub lossy_all : (bs : List ℕ) → IsUtf8 bs → lossy_utf8 bs ≡ chars bs
lossy_all bs u = ap lossy_utf8 (sym (append-nil bs)) ∙ lossy_valid bs [] u ∙ append-nil (chars bs)

-- where none begins, U+FFFD comes, and the maximal subpart is passed over
pub no_char : (bs : List ℕ) → 0 < length bs → char_len bs ≡ 0
    → lossy_utf8 bs ≡ 0xFFFD ∷ lossy_utf8 (drop (subpart_len bs) bs)
no_char [] h none = absurd (omega arith)
no_char (x ∷ bs) h none = grind (arith, common_steps, one_less, past)

pub lossy_fault : (bs : List ℕ) → 0 < length bs → BeginsNone bs
    → lossy_utf8 bs ≡ 0xFFFD ∷ lossy_utf8 (drop (subpart_len bs) bs)
lossy_fault bs h none = no_char bs h (len_of_none bs h none)

-- a character more after a prefix that is UTF-8
pub one_more : (bs : List ℕ) (n k : ℕ) → IsUtf8 (take n bs) → char_len (drop n bs) ≡ k → 0 < k
    → IsUtf8 (take (n + k) bs)
one_more bs n k u is some =
    let more = first_passes (λ l. is_utf8 (take l (drop n bs))) (omega (arith, is)) in
    rw (take-add, ← is) (IsUtf8-append _ _ u (IsUtf8-from_is_utf8 _ more))

-- the characters of bytes that end with the three of U+FFFD
pub replaced-chars : (old new : List ℕ) → IsUtf8 old → IsUtf8 new
    → old ≡ new ++ 0xEF ∷ 0xBF ∷ 0xBD ∷ [] → chars old ≡ chars new ++ 0xFFFD ∷ []
unfolding lib.Utf8.encode
replaced-chars old new u v is = popped-chars old new 0xFFFD u v is

pub ruleset lossy_parts = (lossy_all, lossy_char, lossy_fault)
