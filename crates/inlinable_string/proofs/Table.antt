-- The table of well-formed UTF-8 against the codes of the characters.
use Rattle.inlinable_string.proofs.Common.{common_steps, ◌≡◌, ◌⊎◌, inl, inr, ℕ, zero, suc, ◌+◌, ◌-◌, ◌*◌, ◌/◌, ◌%◌, ◌<◌, ◌≤◌, List, [], ◌∷◌, ◌++◌, length, take, refl, ap, sym, ◌∙◌, arith, subst, ⊎_elim, append-nil, append_assoc, length-append, length-take-le, rules, ◌==◌, if◌then◌else◌, take_at, encode_utf8, IsScalar, scalar_cases, cases_lt, cases_Bool, cond-true, cond-false, and_parts, leb-true, nat_tests, length-encode, len_utf8, following, count_in, subpart_len}
use Rattle.std.specs.Int.{is_in_range}
use Rattle.std.proofs.str.Laws.{Shape, of1, of2, of3, of4, shape, Follows, two, three, four}

-- the range that the table gives the byte after a
abbrev least : ℕ → ℕ
least a = if a == 0xE0 then 0xA0 else (if a == 0xF0 then 0x90 else 0x80)

abbrev most : ℕ → ℕ
most a = if a == 0xED then 0x9F else (if a == 0xF4 then 0x8F else 0xBF)

-- the bytes after these two have one range
abbrev later : ℕ → List (ℕ × ℕ)
later zero = []
later (suc k) = (0x80, 0xBF) ∷ later k

-- what each row states: k bytes follow the second
abbrev IsRow : ℕ → ℕ → Type 0
IsRow a k = following a ≡ (least a, most a) ∷ later k

pub row_two : (a : ℕ) → 194 ≤ a → a < 224 → IsRow a 0
row_two a l h = grind (arith, nat_tests)

pub row_three : (a : ℕ) → 224 ≤ a → a < 240 → IsRow a 1
row_three a l h = grind (arith, nat_tests)

pub row_four : (a : ℕ) → 240 ≤ a → a < 245 → IsRow a 2
row_four a l h = grind (arith, nat_tests)

pub scalar_below : (c : ℕ) → IsScalar c → c < 0x11_0000
scalar_below c s = ⊎_elim (λ h. omega (arith, h)) (λ h. h.1) (scalar_cases c s)

-- bytes that are in a row in full
at_row : (a b k : ℕ) (bs : List ℕ) → IsRow a k → (least a ≤ b) × (b ≤ most a)
    → count_in (later k) bs ≡ k → subpart_len (a ∷ b ∷ bs) ≡ 1 + (1 + k)
at_row a b k bs row p e = grind (arith, common_steps)

one_later : (d : ℕ) (rest : List ℕ) → Follows d → count_in (later 1) (d ∷ rest) ≡ 1
one_later d rest f = grind (arith, common_steps)

two_later : (d e : ℕ) (rest : List ℕ) → Follows d → Follows e
    → count_in (later 2) (d ∷ e ∷ rest) ≡ 2
two_later d e rest f g = grind (arith, common_steps)

pub none_in : (a : ℕ) → a < 194 → following a ≡ []
none_in a h = grind (arith, nat_tests)

pub none_above : (a : ℕ) → 245 ≤ a → following a ≡ []
none_above a h = grind (arith, nat_tests)

in_three : (a b d c : ℕ) → 224 ≤ a → a < 240 → 128 ≤ b → b < 192 → 128 ≤ d → d < 192
    → c + 925824 ≡ a * 4096 + b * 64 + d → 2048 ≤ c
    → (c < 55296) ⊎ ((57344 ≤ c) × (c < 1114112)) → (least a ≤ b) × (b ≤ most a)
in_three a b d c l h p q p' q' n from s = (grind (arith, nat_tests), grind (arith, nat_tests))

in_four : (a b d e c : ℕ) → 240 ≤ a → 128 ≤ b → b < 192 → 128 ≤ d → d < 192 → 128 ≤ e
    → e < 192 → c + 63447168 ≡ a * 262144 + b * 4096 + d * 64 + e → 65536 ≤ c
    → c < 1114112 → (a < 245) × (least a ≤ b) × (b ≤ most a)
in_four a b d e c l p q p' q' p'' q'' n from top = grind (arith, common_steps)

-- a code of more bytes is of a greater character
from_long : (c : ℕ) → ((2 ≤ len_utf8 c → 128 ≤ c) × (3 ≤ len_utf8 c → 2048 ≤ c))
    × (4 ≤ len_utf8 c → 65536 ≤ c)
from_long c = grind (arith, common_steps)

fits : (c : ℕ) (rest : List ℕ) → IsScalar c → Shape c
    → subpart_len (encode_utf8 c ++ rest) ≡ length (encode_utf8 c)
fits c rest s (of1 l e) = grind (arith, common_steps)
fits c rest s (of2 a b l h f n e) = grind (arith, common_steps)
fits c rest s (of3 a b d l h f g n e) =
    search (rules, from_long, length-encode, in_three, scalar_cases, at_row, row_three, one_later)
fits c rest s (of4 a b d x l h f g k n e) =
    search (rules, from_long, length-encode, in_four, scalar_below, at_row, row_four, two_later)

-- the code of each character fits its row in full, and no more does
pub table_fits : (c : ℕ) (rest : List ℕ) → IsScalar c
    → subpart_len (encode_utf8 c ++ rest) ≡ length (encode_utf8 c)
table_fits c rest s = fits c rest s (shape c (scalar_cases c s))

-- a prefix decides what is in the ranges
in_front : (n : ℕ) (ranges : List (ℕ × ℕ)) (xs ys : List ℕ) → take n xs ≡ take n ys
    → n ≤ count_in ranges ys → n ≤ count_in ranges xs
in_front zero ranges xs ys same h = omega arith
in_front (suc n) [] xs ys same h = absurd (omega (arith, h))
in_front (suc n) (r ∷ ranges) xs [] same h = absurd (omega (arith, h))
in_front (suc n) (r ∷ ranges) [] (y ∷ ys) same h = grind (arith, common_steps)
in_front (suc n) (r ∷ ranges) (x ∷ xs) (y ∷ ys) same h =
    grind (arith, common_steps, in_front n ranges xs ys)

-- a front of bytes that begins the code of a character is no longer than the maximal subpart
pub table_longest : (bs : List ℕ) (k c : ℕ) (rest : List ℕ) → k ≤ length bs → IsScalar c
    → encode_utf8 c ≡ take k bs ++ rest → k ≤ subpart_len bs
table_longest bs zero c rest h s e = omega arith
table_longest [] (suc k) c rest h s e = absurd (omega (arith, h))
table_longest (b ∷ bs) (suc k) c rest h s e =
    let whole : subpart_len (encode_utf8 c) ≡ length (encode_utf8 c) =
    ap subpart_len (sym (append-nil (encode_utf8 c))) ∙ table_fits c [] s in
    let all : 1 + count_in (following b) (take k bs ++ rest) ≡ suc (length (take k bs ++ rest)) =
    ap subpart_len (sym e) ∙ whole ∙ ap length e in
    let long : length (take k bs) ≡ k = length-take-le k bs (omega (arith, h)) in
    let enough : k ≤ count_in (following b) (take k bs ++ rest) =
    omega (arith, all, long, length-append (take k bs) rest) in
    let same : take k bs ≡ take k (take k bs ++ rest) = sym (take_at (take k bs) rest k long) in
    let found : k ≤ count_in (following b) bs =
    in_front k (following b) bs (take k bs ++ rest) same enough in
    omega (arith, found)

-- the bytes begin the code of a character
abbrev pub BeginsCode : List ℕ → Type 0
BeginsCode bs = (c : ℕ) × (rest : List ℕ) × IsScalar c × (encode_utf8 c ≡ bs ++ rest)

pub is_scalar : (c : ℕ) → (c < 55296) ⊎ ((57344 ≤ c) × (c < 1114112)) → IsScalar c
is_scalar c h = grind (arith, common_steps)

-- the k bytes that a row wants after the second
abbrev IsLater : ℕ → List ℕ → Type 0
IsLater zero ds = ds ≡ []
IsLater (suc k) [] = ⊥
IsLater (suc k) (d ∷ ds) = (128 ≤ d) × (d ≤ 191) × IsLater k ds

-- with these after it each second byte in the range makes a code
abbrev HasCodes : ℕ → ℕ → ℕ → Type 0
HasCodes a b k = (ds : List ℕ) → IsLater k ds → BeginsCode (a ∷ b ∷ ds)

second_is : (a b : ℕ) → least a ≤ b → b ≤ most a → (128 ≤ b) × (b ≤ 191)
second_is a b p q = (grind (arith, nat_tests), grind (arith, nat_tests))

codes_two : (a b : ℕ) → 194 ≤ a → a < 224 → least a ≤ b → b ≤ most a → HasCodes a b 0
codes_two a b l h p q ds none =
    let r = second_is a b p q in
    let c = (a - 192) * 64 + (b - 128) in
    let first : 192 + c / 64 ≡ a = omega (arith, r.0, r.1) in
    let second : 128 + c % 64 ≡ b = omega (arith, r.0, r.1) in
    let code = two c (omega (arith, r.0)) (omega (arith, r.1)) in
    let scalar = is_scalar c (inl (omega (arith, r.1))) in
    (c, [], scalar, grind (arith, common_steps, code, first, second))

three_is : (a b d c : ℕ) → 224 ≤ a → a < 240 → least a ≤ b → b ≤ most a → 128 ≤ d → d ≤ 191
    → c + 925824 ≡ a * 4096 + b * 64 + d → (2048 ≤ c) × ((c < 55296) ⊎ (57344 ≤ c))
three_is a b d c l h p q p' q' n = (grind (arith, nat_tests), grind (arith, nat_tests))

codes_three : (a b : ℕ) → 224 ≤ a → a < 240 → least a ≤ b → b ≤ most a → HasCodes a b 1
codes_three a b l h p q [] ds = absurd ds
codes_three a b l h p q (d ∷ ds) (p', q', none) =
    let r = second_is a b p q in
    let c = (a - 224) * 4096 + (b - 128) * 64 + (d - 128) in
    let n : c + 925824 ≡ a * 4096 + b * 64 + d = omega (arith, r.0, r.1) in
    let is = three_is a b d c l h p q p' q' n in
    let top : c < 65536 = omega (arith, r.1, n) in
    let first : 224 + c / 4096 ≡ a = omega (arith, r.0, r.1) in
    let second : 128 + c / 64 % 64 ≡ b = omega (arith, r.0, r.1) in
    let third : 128 + c % 64 ≡ d = omega (arith, r.0, r.1) in
    let code = three c is.0 top in
    let scalar = is_scalar c (⊎_elim (λ g. inl g) (λ g. inr (g, omega (arith, top))) is.1) in
    (c, [], scalar, grind (arith, common_steps, code, first, second, third))

four_is : (a b d e c : ℕ) → 240 ≤ a → a < 245 → least a ≤ b → b ≤ most a → 128 ≤ d → d ≤ 191
    → 128 ≤ e → e ≤ 191 → c + 63447168 ≡ a * 262144 + b * 4096 + d * 64 + e
    → (65536 ≤ c) × (c < 1114112)
four_is a b d e c l h p q p' q' p'' q'' n = grind (arith, common_steps)

codes_four : (a b : ℕ) → 240 ≤ a → a < 245 → least a ≤ b → b ≤ most a → HasCodes a b 2
codes_four a b l h p q [] ds = absurd ds
codes_four a b l h p q (d ∷ []) ds = absurd ds.2
codes_four a b l h p q (d ∷ e ∷ ds) (p', q', (p'', q'', none)) =
    let r = second_is a b p q in
    let c = (a - 240) * 262144 + (b - 128) * 4096 + (d - 128) * 64 + (e - 128) in
    let n : c + 63447168 ≡ a * 262144 + b * 4096 + d * 64 + e = omega (arith, r.0, r.1) in
    let is = four_is a b d e c l h p q p' q' p'' q'' n in
    let first : 240 + c / 262144 ≡ a = omega (arith, r.0, r.1) in
    let second : 128 + c / 4096 % 64 ≡ b = omega (arith, r.0, r.1) in
    let third : 128 + c / 64 % 64 ≡ d = omega (arith, r.0, r.1) in
    let fourth : 128 + c % 64 ≡ e = omega (arith, r.0, r.1) in
    let code = four c is.0 in
    let scalar = is_scalar c (inr (omega (arith, is.0), is.1)) in
    (c, [], scalar, grind (arith, common_steps, code, first, second, third, fourth))

-- what begins with more begins with less
shorter : (bs more : List ℕ) → BeginsCode (bs ++ more) → BeginsCode bs
shorter bs more (c, rest, s, e) = (c, more ++ rest, s, e ∙ append_assoc bs more rest)

any_later : (k : ℕ) → (ds : List ℕ) × IsLater k ds
any_later zero = ([], refl)
any_later (suc k) = let r = any_later k in (128 ∷ r.0, (omega arith, omega arith, r.1))

-- the bytes at the front of bs that are in the ranges begin the k bytes of some code
abbrev Filled : ℕ → List ℕ → Type 0
Filled k front = (ds : List ℕ) × (more : List ℕ) × IsLater k ds × (ds ≡ front ++ more)

filled : (k : ℕ) (bs : List ℕ) → Filled k (take (count_in (later k) bs) bs)
filled zero bs = ([], [], refl, refl)
filled (suc k) [] = let r = any_later (suc k) in (r.0, r.0, r.1, refl)
filled (suc k) (b ∷ bs) =
    let n = count_in (later (suc k)) (b ∷ bs) in
    ⊎_elim
    (λ inside.
    let p = and_parts _ _ inside in
    let f = filled k bs in
    let here : n ≡ suc (count_in (later k) bs) = cond-true _ _ _ inside ∙ omega arith in
    subst (λ m. Filled (suc k) (take m (b ∷ bs))) (sym here)
    (b ∷ f.0, f.1, (leb-true 128 b p.0, leb-true b 191 p.1, f.2), ap (λ x. b ∷ x) f.3))
    (λ outside.
    let r = any_later (suc k) in
    let here : n ≡ 0 = cond-false _ _ _ outside in
    subst (λ m. Filled (suc k) (take m (b ∷ bs))) (sym here) (r.0, r.0, r.1, refl))
    (cases_Bool (is_in_range 128 191 b))

-- the maximal subpart begins the code of some character
abbrev Begins : List ℕ → Type 0
Begins bs = 1 < subpart_len bs → BeginsCode (take (subpart_len bs) bs)

in_row : (a b k : ℕ) (bs : List ℕ) → IsRow a k
    → (least a ≤ b → b ≤ most a → HasCodes a b k) → Begins (a ∷ b ∷ bs)
in_row a b k bs row codes h =
    let n = count_in (later k) bs in
    let in_it = ap (λ r. 1 + count_in r (b ∷ bs)) row in
    ⊎_elim
    (λ inside.
    let p = and_parts _ _ inside in
    let f = filled k bs in
    let long : subpart_len (a ∷ b ∷ bs) ≡ suc (suc n) =
    in_it ∙ ap (λ m. 1 + m) (cond-true _ _ _ inside) ∙ omega arith in
    let code = codes (leb-true _ _ p.0) (leb-true _ _ p.1) f.0 f.2 in
    subst (λ m. BeginsCode (take m (a ∷ b ∷ bs))) (sym long)
    (shorter (a ∷ b ∷ take n bs) f.1 (subst (λ x. BeginsCode (a ∷ b ∷ x)) f.3 code)))
    (λ outside.
    let short : subpart_len (a ∷ b ∷ bs) ≡ 1 = in_it ∙ ap (λ m. 1 + m) (cond-false _ _ _ outside) in
    absurd (omega (arith, h, short)))
    (cases_Bool (is_in_range (least a) (most a) b))

no_row : (a : ℕ) (bs : List ℕ) → following a ≡ [] → Begins (a ∷ bs)
no_row a bs row h = grind (arith, common_steps)

by_row : (a b : ℕ) (bs : List ℕ) → Begins (a ∷ b ∷ bs)
by_row a b bs =
    ⊎_elim (λ below. no_row a (b ∷ bs) (none_in a below))
    (λ two. ⊎_elim (λ h. in_row a b 0 bs (row_two a two h) (codes_two a b two h))
    (λ three. ⊎_elim (λ h. in_row a b 1 bs (row_three a three h) (codes_three a b three h))
    (λ four. ⊎_elim (λ h. in_row a b 2 bs (row_four a four h) (codes_four a b four h))
    (λ above. no_row a (b ∷ bs) (none_above a above))
    (cases_lt a 245)) (cases_lt a 240)) (cases_lt a 224)) (cases_lt a 194)

-- the maximal subpart, where it has more than one byte, begins the code of some character
pub table_begins : (bs : List ℕ) → 1 < subpart_len bs → BeginsCode (take (subpart_len bs) bs)
table_begins [] h = absurd (omega (arith, h))
table_begins (a ∷ []) h = grind (arith, common_steps)
table_begins (a ∷ b ∷ bs) h = by_row a b bs h
