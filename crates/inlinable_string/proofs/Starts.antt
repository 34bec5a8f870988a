-- What bytes begin with, by the row of the table of well-formed UTF-8 for the first of them.
use Rattle.inlinable_string.proofs.Common.{common_steps, ◌≡◌, inl, ℕ, suc, ◌+◌, ◌-◌, ◌<◌, ◌≤◌, List, [], ◌∷◌, ◌++◌, length, take, drop, refl, ap, sym, ◌∙◌, arith, subst, ⊎_elim, drop-drop, slice_index, cases_lt, encode_utf8, IsScalar, scalar_cases, following, count_in, subpart_len, char_len}
use Rattle.std.specs.Prelude.{replicate}
use Rattle.std.proofs.str.Laws.{Shape, of1, of2, of3, of4, shape, one}
use Rattle.inlinable_string.proofs.Subparts.{Begins, len_of_char, len_of_none}
use Rattle.inlinable_string.proofs.Table.{none_in, none_above, row_two, row_three, row_four, is_scalar, table_fits, table_begins, BeginsCode}

-- the row of the first byte
abbrev row : List ℕ → List (ℕ × ℕ)
row bs = following (slice_index bs 0)

subpart_at : (bs : List ℕ) → 0 < length bs → subpart_len bs ≡ 1 + count_in (row bs) (drop 1 bs)
subpart_at [] some = absurd (omega arith)
subpart_at (b ∷ bs) some = refl

count_within : (ranges : List (ℕ × ℕ)) (bs : List ℕ) → count_in ranges bs ≤ length bs
count_within [] bs = omega arith
count_within (r ∷ ranges) [] = omega arith
count_within (r ∷ ranges) (b ∷ bs) = grind (arith, common_steps, count_within ranges bs)

subpart_within : (bs : List ℕ) → subpart_len bs ≤ length bs
subpart_within [] = omega arith
subpart_within (b ∷ bs) = omega (arith, count_within (following b) bs)

-- a character is as long as the row of its first byte is
len_by_row : (c : ℕ) (rest : List ℕ) → IsScalar c → Shape c
    → length (encode_utf8 c) ≡ 1 + length (row (encode_utf8 c ++ rest))
len_by_row c rest s (of1 l e) = grind (arith, common_steps, none_in)
len_by_row c rest s (of2 a b l h f n e) = grind (arith, common_steps, none_in, row_two, table_fits)
len_by_row c rest s (of3 a b d l h f g n e) = grind (arith, common_steps, row_three)
len_by_row c rest s (of4 a b d x l h f g k n e) =
    grind (arith, common_steps, none_above, row_four, table_fits)

-- where a character begins the bytes, it fills the row
pub fills : (bs : List ℕ) (c : ℕ) (rest : List ℕ) → Begins bs c rest
    → (length (encode_utf8 c) ≡ 1 + length (row bs)) × (subpart_len bs ≡ 1 + length (row bs))
fills bs c rest b =
    let fit = ap subpart_len b.joined ∙ table_fits c rest b.scalar in
    let long = len_by_row c rest b.scalar (shape c (scalar_cases c b.scalar))
    ∙ ap (λ x. 1 + length (row x)) (sym b.joined) in
    (long, fit ∙ long)

-- where the row is not filled, none does
unfilled : (bs : List ℕ) → 0 < length bs → count_in (row bs) (drop 1 bs) < length (row bs)
    → char_len bs ≡ 0
unfilled bs some less = len_of_none bs some
    (λ c rest b. let f = fills bs c rest b in omega (arith, f.1, subpart_at bs some))

-- so is one whose code begins with these bytes
len_of_code : (x : ℕ) (xs : List ℕ) (code : BeginsCode (x ∷ xs))
    → length (encode_utf8 code.0) ≡ 1 + length (following x)
len_of_code x xs (c, rest, s, is) = grind (arith, common_steps, len_by_row, scalar_cases, shape)

-- bytes that begin a code of no more bytes are that code
begun : (bs : List ℕ) (n c : ℕ) (rest : List ℕ) → n ≤ length bs → IsScalar c
    → encode_utf8 c ≡ take n bs ++ rest → length (encode_utf8 c) ≡ n → Begins bs c (drop n bs)
begun bs n c rest within s is long =
    grind (arith, common_steps)

-- a row of more than one byte that is filled is a character
pub filled : (bs : List ℕ) → 0 < length bs → 0 < length (row bs)
    → count_in (row bs) (drop 1 bs) ≡ length (row bs) → char_len bs ≡ 1 + length (row bs)
filled [] some more all = absurd (omega arith)
filled (x ∷ xs) some more all =
    let n = suc (length (following x)) in
    let long : subpart_len (x ∷ xs) ≡ n = omega (arith, all) in
    let code = subst (λ k. BeginsCode (take k (x ∷ xs))) long
    (table_begins (x ∷ xs) (omega (arith, long, more))) in
    let found = len_of_code x (take (length (following x)) xs) code in
    let within = subpart_within (x ∷ xs) in
    let begins = begun (x ∷ xs) n code.0 code.1 (omega (arith, long, within)) code.2 code.3
    (omega (arith, found)) in
    omega (arith, len_of_char (x ∷ xs) code.0 (drop n (x ∷ xs)) begins, found)

-- a byte of ASCII is a character
pub ascii : (bs : List ℕ) → 0 < length bs → slice_index bs 0 < 128 → char_len bs ≡ 1
ascii [] some below = absurd (omega arith)
ascii (x ∷ xs) some below =
    len_of_char (x ∷ xs) x xs record {
      scalar = is_scalar x (inl (omega (arith, below)));
      joined = ap (λ code. code ++ xs) (sym (one x below));
    } ∙ ap length (one x below)

first_of_one : (c : ℕ) (rest : List ℕ) → Shape c → length (encode_utf8 c) ≡ 1
    → slice_index (encode_utf8 c ++ rest) 0 < 128
first_of_one c rest (of1 l e) single = grind (arith, common_steps)
first_of_one c rest (of2 a b l h f n e) single = absurd (omega (arith, single, ap length e))
first_of_one c rest (of3 a b d l h f g n e) single = absurd (omega (arith, single, ap length e))
first_of_one c rest (of4 a b d x l h f g k n e) single = absurd (omega (arith, single, ap length e))

-- a byte above them that has no row begins none, and is a subpart by itself
pub rowless : (bs : List ℕ) → 0 < length bs → 128 ≤ slice_index bs 0 → row bs ≡ []
    → (char_len bs ≡ 0) × (subpart_len bs ≡ 1)
rowless bs some above none =
    let alone = ap length none in
    let no = len_of_none bs some (λ c rest b.
    let f = fills bs c rest b in
    let single : length (encode_utf8 c) ≡ 1 = omega (arith, f.0, alone) in
    let first = first_of_one c rest (shape c (scalar_cases c b.scalar)) single in
    omega (arith, first, ap (λ x. slice_index x 0) b.joined)) in
    (no, rw none at (subpart_at bs some))

-- how many bytes follow the first byte a
abbrev pub Follow : ℕ → ℕ → Type 0
Follow a m =
    (a < 224 → m ≡ 1) × (224 ≤ a → 2 ≤ m) × (a < 240 → m ≤ 2) × (240 ≤ a → m ≡ 3)

-- the row of a byte that begins a character of more: the range of the second, and k more after it
record HasRow (a : ℕ) : Type 0 where
  range : ℕ × ℕ
  k : ℕ
  is : following a ≡ range ∷ replicate k (0x80, 0xBF)
  many : Follow a (1 + k)

row_is : (a : ℕ) → 194 ≤ a → a ≤ 244 → HasRow a
row_is a from to =
    ⊎_elim (λ less. record { range = _; k = 0; is = row_two a from less; many = grind arith })
    (λ above. ⊎_elim
    (λ below. record { range = _; k = 1; is = row_three a above below; many = grind arith })
    (λ most. record { range = _; k = 2; is = row_four a most (omega arith); many = grind arith })
    (cases_lt a 240)) (cases_lt a 224)

-- the n bytes after the first are in the row, and these ranges of it are left
pub record Reached (bs : List ℕ) (n : ℕ) (left : List (ℕ × ℕ)) : Type 0 where
  pub some : 0 < length bs
  pub count : count_in (row bs) (drop 1 bs) ≡ n + count_in left (drop (1 + n) bs)
  pub long : length (row bs) ≡ n + length left

at_first : (bs : List ℕ) (left : List (ℕ × ℕ)) → 0 < length bs → row bs ≡ left → Reached bs 0 left
at_first bs left some is = grind (arith, common_steps)

not_in : (r : ℕ × ℕ) (left : List (ℕ × ℕ)) (bs : List ℕ) → count_in (r ∷ []) bs ≡ 0
    → count_in (r ∷ left) bs ≡ 0
not_in r left [] out = refl
not_in r left (b ∷ bs) out = grind (arith, common_steps)

one_in : (r : ℕ × ℕ) (left : List (ℕ × ℕ)) (bs : List ℕ) → count_in (r ∷ []) bs ≡ 1
    → count_in (r ∷ left) bs ≡ 1 + count_in left (drop 1 bs)
one_in r left [] inside = absurd (omega (arith, inside))
one_in r left (b ∷ bs) inside = grind (arith, common_steps)

-- the next byte is in its range
further : (bs : List ℕ) (n : ℕ) (r : ℕ × ℕ) (left : List (ℕ × ℕ)) → Reached bs n (r ∷ left)
    → count_in (r ∷ []) (drop (1 + n) bs) ≡ 1 → Reached bs (1 + n) left
further bs n r left so inside =
    let sum : 1 + n + 1 ≡ 1 + (1 + n) = omega arith in
    let next = drop-drop 1 (1 + n) bs ∙ ap (λ k. drop k bs) sum in
    let one = one_in r left (drop (1 + n) bs) inside ∙ ap (λ x. 1 + count_in left x) next in
    record { some = so.some; count = omega (arith, so.count, one); long = omega (arith, so.long) }

-- it is not, and the subpart ends before it
ended : (bs : List ℕ) (n : ℕ) (r : ℕ × ℕ) (left : List (ℕ × ℕ)) → Reached bs n (r ∷ left)
    → count_in (r ∷ []) (drop (1 + n) bs) ≡ 0 → (char_len bs ≡ 0) × (subpart_len bs ≡ 1 + n)
ended bs n r left so outside = grind (arith, common_steps, not_in, subpart_at, unfilled)

-- n bytes after the first are in its row, and k more are left, all of one range
pub record InRow (bs : List ℕ) (n : ℕ) : Type 0 where
  pub k : ℕ
  pub reached : Reached bs n (replicate k (0x80, 0xBF))
  pub many : Follow (slice_index bs 0) (n + k)

-- the second byte is in its range
pub second : (bs : List ℕ) → 0 < length bs → 194 ≤ slice_index bs 0 → slice_index bs 0 ≤ 244
    → (194 ≤ slice_index bs 0 → slice_index bs 0 ≤ 244
    → count_in (take 1 (row bs)) (drop 1 bs) ≡ 1) → InRow bs 1
second bs some from to inside =
    let has = row_is (slice_index bs 0) from to in
    let one = ap (λ r. count_in (take 1 r) (drop 1 bs)) (sym has.is) ∙ inside from to in
    let reached = further bs 0 has.range _ (at_first bs _ some has.is) one in
    record { k = has.k; reached = reached; many = has.many }

-- it is not
pub no_second : (bs : List ℕ) → 0 < length bs → 194 ≤ slice_index bs 0 → slice_index bs 0 ≤ 244
    → (194 ≤ slice_index bs 0 → slice_index bs 0 ≤ 244
    → count_in (take 1 (row bs)) (drop 1 bs) ≡ 0) → (char_len bs ≡ 0) × (subpart_len bs ≡ 1)
no_second bs some from to outside =
    let has = row_is (slice_index bs 0) from to in
    let none = ap (λ r. count_in (take 1 r) (drop 1 bs)) (sym has.is) ∙ outside from to in
    ended bs 0 has.range _ (at_first bs _ some has.is) none

-- so is the next
pub next : (bs : List ℕ) (n : ℕ) → (so : InRow bs n) → 0 < so.k
    → count_in ((0x80, 0xBF) ∷ []) (drop (1 + n) bs) ≡ 1 → InRow bs (1 + n)
next bs n so more inside =
    let less : so.k ≡ suc (so.k - 1) = omega arith in
    let left = subst (λ k. Reached bs n (replicate k (0x80, 0xBF))) less so.reached in
    let sum : n + so.k ≡ 1 + n + (so.k - 1) = omega arith in
    let many = subst (Follow (slice_index bs 0)) sum so.many in
    record { k = so.k - 1; reached = further bs n _ _ left inside; many = many }

-- it is not
pub no_next : (bs : List ℕ) (n : ℕ) → (so : InRow bs n) → 0 < so.k
    → count_in ((0x80, 0xBF) ∷ []) (drop (1 + n) bs) ≡ 0
    → (char_len bs ≡ 0) × (subpart_len bs ≡ 1 + n)
no_next bs n so more outside =
    let less : so.k ≡ suc (so.k - 1) = omega arith in
    let left = subst (λ k. Reached bs n (replicate k (0x80, 0xBF))) less so.reached in
    ended bs n _ _ left outside

-- none is left: it is a character
pub complete : (bs : List ℕ) (n : ℕ) → (so : InRow bs n) → 0 < n → so.k ≡ 0 → char_len bs ≡ 1 + n
complete bs n so some none = grind (arith, common_steps, filled)
