-- UTF-16: units with their neighbours, and the text that they give.
use Rattle.inlinable_string.proofs.Common.{common_steps, ◌≡◌, ℕ, zero, suc, ◌+◌, ◌-◌, ◌/◌, ◌%◌, ◌<◌, ◌≤◌, true, false, not, Bool, ◌&&◌, ◌||◌, List, [], ◌∷◌, ◌++◌, length, take, refl, ap, sym, ◌∙◌, subst, arith, add-one, ⊎_elim, append-nil, append_assoc, rules, slice_index, if◌then◌else◌, IsScalar, all_scalars, IsAscii, cases_lt, cases_Bool, and_parts, leb-true, ltb-true, cond-true, cond-false, lt-ltb, lt-leb, le-ltb, and_left, and_right, get_or_past, take_more, take_all, encodes-append, chars, chars_from_encodes, IsUtf8, bytes_of, size, units_of, is_high_at, is_low_at, is_high_before, is_unpaired, HasUnpaired, lossy_unit, lossy_utf16_before, lossy_utf16}
use Rattle.std.proofs.Math.Seq.{take-append_seam}
use Rattle.std.proofs.lemmas.List.Elements.{All-get_or}
use Rattle.std.specs.Char.Escape.{encode_utf16}
use Rattle.std.specs.Char.Utf16.{is_high_surrogate, is_low_surrogate, surrogate_pair_char}
use Rattle.inlinable_string.proofs.Text.{size-append}
use Rattle.inlinable_string.proofs.Table.{scalar_below}

pub clash : {b : Bool} → b ≡ true → b ≡ false → ⊥
clash t f = cc

-- past the end no unit is unpaired, so those before it decide
pub none_unpaired : (v : List ℕ) → ((j : ℕ) → j < length v → is_unpaired v j ≡ false)
    → HasUnpaired v → ⊥
none_unpaired v none some = grind (arith, common_steps)

pub all_paired : (v : List ℕ) → (HasUnpaired v → ⊥) → (i : ℕ) → is_unpaired v i ≡ false
all_paired v none i = ⊎_elim (λ h. absurd (none (i, h))) (λ h. h) (cases_Bool (is_unpaired v i))

-- one more unit
pub lossy_more : (v : List ℕ) (i : ℕ) → lossy_utf16_before v (i + 1) ≡ lossy_utf16_before v i
    ++ lossy_unit v i
lossy_more v i = ap (lossy_utf16_before v) (add-one i)

-- more units give no fewer bytes
pub lossy_grows : (v : List ℕ) (i n : ℕ) → i ≤ n
    → size (lossy_utf16_before v i) ≤ size (lossy_utf16_before v n)
lossy_grows v i zero h = grind (arith, common_steps)
lossy_grows v i (suc n) h = ⊎_elim
    (λ (below : i < suc n).
    let more = size-append (lossy_utf16_before v n) (lossy_unit v n) in
    omega (arith, more, lossy_grows v i n (omega arith)))
    (λ (at : suc n ≤ i).
    let e : i ≡ suc n = omega arith in
    subst (λ k. size (lossy_utf16_before v i) ≤ size (lossy_utf16_before v k)) e (omega arith))
    (cases_lt i (suc n))

-- what one more unit gives is counted with what those before it give
pub lossy_counted : (v : List ℕ) (i : ℕ) → size (lossy_utf16_before v (i + 1))
    ≡ size (lossy_utf16_before v i) + size (lossy_unit v i)
lossy_counted v i = ap size (lossy_more v i) ∙ size-append (lossy_utf16_before v i) (lossy_unit v i)

-- the text of the units has no fewer bytes than what those before one and it give
pub lossy_counted_within : (v : List ℕ) (i : ℕ) → i < length v
    → size (lossy_utf16_before v i) + size (lossy_unit v i) ≤ size (lossy_utf16 v)
lossy_counted_within v i h =
    omega (arith, lossy_counted v i, lossy_grows v (i + 1) (length v) (omega arith))

-- so are its bytes
pub lossy_bytes : (v : List ℕ) (i : ℕ) → bytes_of (lossy_utf16_before v (i + 1))
    ≡ bytes_of (lossy_utf16_before v i) ++ bytes_of (lossy_unit v i)
lossy_bytes v i =
    ap bytes_of (lossy_more v i) ∙ encodes-append (lossy_utf16_before v i) (lossy_unit v i)

pub ruleset written = (common_steps, lossy_counted, lossy_counted_within, lossy_bytes)

units-append : (a b : List ℕ) → units_of (a ++ b) ≡ units_of a ++ units_of b
units-append [] b = refl
units-append (c ∷ a) b = grind (arith, common_steps, units-append a b)

-- the numbers of surrogates
pub high_range : (u : ℕ) → is_high_surrogate u ≡ true → (0xD800 ≤ u) × (u < 0xDC00)
high_range u h = let p = and_parts _ _ h in (leb-true _ _ p.0, ltb-true _ _ p.1)

pub low_range : (u : ℕ) → is_low_surrogate u ≡ true → (0xDC00 ≤ u) × (u < 0xE000)
low_range u h = let p = and_parts _ _ h in (leb-true _ _ p.0, ltb-true _ _ p.1)

-- no surrogate is both
pub high_is_not_low : (u : ℕ) → is_high_surrogate u ≡ true → is_low_surrogate u ≡ false
high_is_not_low u h = and_left _ _ (lt-leb 0xDC00 u (high_range u h).1)

-- a low unit that is paired has a high one before it
paired_low : (x y l b : Bool) → x ≡ false → l ≡ true → ((x && y) || (l && not b)) ≡ false → b ≡ true
paired_low x y l b e g f = grind (arith, common_steps)

-- what a unit that is paired gives
gives_pair : (v : List ℕ) (i : ℕ) → is_unpaired v i ≡ false → is_high_at v i ≡ true
    → lossy_unit v i ≡ surrogate_pair_char (slice_index v i) (slice_index v (i + 1)) ∷ []
gives_pair v i u h = cond-false _ _ _ u ∙ cond-true _ _ _ h

gives_none : (v : List ℕ) (i : ℕ) → is_unpaired v i ≡ false → is_high_at v i ≡ false
    → is_low_at v i ≡ true → lossy_unit v i ≡ []
gives_none v i u h l = cond-false _ _ _ u ∙ cond-false _ _ _ h ∙ cond-true _ _ _ l

gives_itself : (v : List ℕ) (i : ℕ) → is_unpaired v i ≡ false → is_high_at v i ≡ false
    → is_low_at v i ≡ false → lossy_unit v i ≡ slice_index v i ∷ []
gives_itself v i u h l = cond-false _ _ _ u ∙ cond-false _ _ _ h ∙ cond-false _ _ _ l

one_unit : (c : ℕ) → c < 0x1_0000 → encode_utf16 c ≡ c ∷ []
one_unit c h = cond-true _ _ _ (lt-ltb c 0x1_0000 h)

two_units : (c : ℕ) → 0x1_0000 ≤ c
    → encode_utf16 c ≡ (0xD800 + (c - 0x1_0000) / 0x400) ∷ (0xDC00 + (c - 0x1_0000) % 0x400) ∷ []
two_units c h = cond-false _ _ _ (le-ltb c 0x1_0000 h)

pair_units : (h l : ℕ) → (0xD800 ≤ h) × (h < 0xDC00) → (0xDC00 ≤ l) × (l < 0xE000)
    → encode_utf16 (surrogate_pair_char h l) ≡ h ∷ l ∷ []
pair_units h l p q = grind (arith, common_steps)

module _ (v : List ℕ) (paired : (i : ℕ) → is_unpaired v i ≡ false) where
  low_after : (i : ℕ) → is_high_at v i ≡ true → is_low_at v (i + 1) ≡ true
  low_after i h = grind (arith, common_steps)

  -- after a high unit comes a low one
  low_here : (i : ℕ) → is_high_before v i ≡ true → is_low_at v i ≡ true
  low_here zero h = absurd (clash h refl)
  low_here (suc i) h = ap (is_low_at v) (sym (add-one i)) ∙ low_after i h

  not_before : (i : ℕ) → is_low_at v i ≡ false → is_high_before v i ≡ false
  not_before i l = search (rules, clash, low_here, cases_Bool)

  -- how many units those before n have given: a pair is given by its first
  abbrev read_to : ℕ → ℕ
  read_to n = if is_high_before v n then n + 1 else n

  low_within : (i : ℕ) → is_low_at v i ≡ true → i < length v
  low_within i l = grind (arith, common_steps)

  module _ (fits : (i : ℕ) → slice_index v i < 0x1_0000) where
    abbrev StepsAt : ℕ → Type 0
    StepsAt n = take (read_to n) v ++ units_of (lossy_unit v n) ≡ take (read_to (suc n)) v

    high : (n : ℕ) → n < length v → is_high_at v n ≡ true → StepsAt n
    high n below h =
        let u = slice_index v n in
        let w = slice_index v (n + 1) in
        let l : is_low_at v (n + 1) ≡ true = low_after n h in
        let before : is_high_before v n ≡ false = not_before n (high_is_not_low u h) in
        let gives : units_of (lossy_unit v n) ≡ u ∷ w ∷ [] =
        ap units_of (gives_pair v n (paired n) h) ∙ append-nil _
        ∙ pair_units u w (high_range u h) (low_range w l) in
        let from : take (read_to n) v ≡ take n v = ap (λ k. take k v) (cond-false _ _ _ before) in
        let to : take (read_to (suc n)) v ≡ take (n + 1 + 1) v =
        ap (λ k. take k v) (cond-true _ _ _ h ∙ ap (λ k. k + 1) (sym (add-one n))) in
        let within : n + 1 < length v = low_within (n + 1) l in
        let both : take (n + 1 + 1) v ≡ take n v ++ u ∷ w ∷ [] =
        take_more v (n + 1) 0 within ∙ ap (λ x. x ++ w ∷ []) (take_more v n 0 below)
        ∙ append_assoc (take n v) (u ∷ []) (w ∷ []) in
        (λ i. from i ++ gives i) ∙ sym both ∙ sym to

    one_more : (n : ℕ) → is_high_at v n ≡ false → take (read_to (suc n)) v ≡ take (n + 1) v
    one_more n h = ap (λ k. take k v) (cond-false _ _ _ h ∙ sym (add-one n))

    low : (n : ℕ) → is_high_at v n ≡ false → is_low_at v n ≡ true → StepsAt n
    low n h l = search (rules, paired_low, cond-true, gives_none, one_more)

    plain : (n : ℕ) → n < length v → is_high_at v n ≡ false → is_low_at v n ≡ false → StepsAt n
    plain n below h l =
        search (rules, not_before, cond-false, gives_itself, one_unit, take_more, one_more)

    step : (n : ℕ) → n < length v → StepsAt n
    step n below = grind (arith, common_steps, high, low, plain, cases_Bool)

    read : (n : ℕ) → n ≤ length v → units_of (lossy_utf16_before v n) ≡ take (read_to n) v
    read zero h = refl
    read (suc n) h = search (rules, read n (omega (arith, h)), units-append, step)

    -- units of which each is paired are those of the text that they are read as
    pub units-lossy : units_of (lossy_utf16 v) ≡ v
    units-lossy = search (rules, get_or_past, read, cond-false, not_before, take_all)

-- what fills the room is all that it shows
pub filled : (xs ys v : List ℕ) (n : ℕ) → xs ≡ v → n ≡ length v → take n (xs ++ ys) ≡ v
filled xs ys v n e l = rw (e, l) (take-append_seam v ys)

-- units of ASCII are read as they are
ascii_gives : (v : List ℕ) → IsAscii v → (i : ℕ) → lossy_unit v i ≡ slice_index v i ∷ []
ascii_gives v a i = grind (arith, common_steps)

ascii_read : (v : List ℕ) → IsAscii v → (n : ℕ) → n ≤ length v → lossy_utf16_before v n ≡ take n v
ascii_read v a zero h = refl
ascii_read v a (suc n) h =
    grind (arith, add-one, ascii_gives, take_more, ascii_read v a n)

pub lossy_ascii : (v : List ℕ) → IsAscii v → lossy_utf16 v ≡ v
lossy_ascii v a = ascii_read v a (length v) (omega arith) ∙ take_all (length v) v (omega arith)

-- the other way round: of a text's units each is paired
-- the same with the next place as a successor, which computes
abbrev unpaired_next : List ℕ → ℕ → ℕ → Bool
unpaired_next v i next = (is_high_at v i && not (is_low_at v next)) ||
    (is_low_at v i && not (is_high_before v i))

by_next : (v : List ℕ) (i : ℕ) → is_unpaired v i ≡ unpaired_next v i (suc i)
by_next v i = ap (unpaired_next v i) (add-one i)

past_first : (u : ℕ) (v : List ℕ) (i : ℕ) → is_high_surrogate u ≡ false
    → is_unpaired (u ∷ v) (suc i) ≡ is_unpaired v i
past_first u v zero h = grind (arith, common_steps)
past_first u v (suc i) h = by_next (u ∷ v) (suc (suc i)) ∙ sym (by_next v (suc i))

scalar_is_no_surrogate : (c : ℕ) → IsScalar c
    → (is_high_surrogate c ≡ false) × (is_low_surrogate c ≡ false)
scalar_is_no_surrogate c s = grind (arith, common_steps)

-- the two units of a character above U+FFFF
first_is_high : (c : ℕ) → 0x1_0000 ≤ c → c < 0x11_0000
    → is_high_surrogate (0xD800 + (c - 0x1_0000) / 0x400) ≡ true
first_is_high c l h = grind (arith, common_steps)

second_is_low : (c : ℕ) → is_low_surrogate (0xDC00 + (c - 0x1_0000) % 0x400) ≡ true
second_is_low c = grind (arith, common_steps)

pub low_is_not_high : (u : ℕ) → is_low_surrogate u ≡ true → is_high_surrogate u ≡ false
low_is_not_high u l = and_right _ _ (le-ltb u 0xDC00 (low_range u l).0)

pair_is_paired : (h l : ℕ) (v : List ℕ) → is_high_surrogate h ≡ true → is_low_surrogate l ≡ true
    → ((i : ℕ) → is_unpaired v i ≡ false) → (i : ℕ) → is_unpaired (h ∷ l ∷ v) i ≡ false
pair_is_paired h l v p q rest zero = rw (p, q, high_is_not_low h p) refl
pair_is_paired h l v p q rest (suc zero) = rw (p, q, low_is_not_high l q) refl
pair_is_paired h l v p q rest (suc (suc i)) =
    by_next (h ∷ l ∷ v) (suc (suc i)) ∙ sym (by_next (l ∷ v) (suc i))
    ∙ past_first l v i (low_is_not_high l q) ∙ rest i

one_is_paired : (u : ℕ) (v : List ℕ) → is_high_surrogate u ≡ false → is_low_surrogate u ≡ false
    → ((i : ℕ) → is_unpaired v i ≡ false) → (i : ℕ) → is_unpaired (u ∷ v) i ≡ false
one_is_paired u v p q rest zero = rw (p, q) refl
one_is_paired u v p q rest (suc i) = past_first u v i p ∙ rest i

pub text_is_paired : (t : List ℕ) → all_scalars t ≡ true → (i : ℕ)
    → is_unpaired (units_of t) i ≡ false
text_is_paired [] s i = grind (arith, common_steps)
text_is_paired (c ∷ t) s i =
    let p = and_parts _ _ s in
    let rest = text_is_paired t p.1 in
    let n = scalar_is_no_surrogate c p.0 in
    ⊎_elim
    (λ h. ap (λ u. is_unpaired (u ++ units_of t) i) (one_unit c h)
    ∙ one_is_paired c (units_of t) n.0 n.1 rest i)
    (λ h. ap (λ u. is_unpaired (u ++ units_of t) i) (two_units c h)
    ∙ pair_is_paired _ _ (units_of t) (first_is_high c h (scalar_below c p.0))
    (second_is_low c) rest i)
    (cases_lt c 0x1_0000)

-- a text's units are read as the text
abbrev pub given : Bool → Bool → Bool → ℕ → ℕ → List ℕ
given unpaired high low u next =
    if unpaired then 0xFFFD ∷ []
    else (if high then surrogate_pair_char u next ∷ []
    else (if low then [] else u ∷ []))

next_behind : (u : ℕ) (v : List ℕ) (n : ℕ) → slice_index (u ∷ v) (suc n + 1) ≡ slice_index v (n + 1)
next_behind u v n = grind (arith, common_steps)

-- after a unit that is not high, units give what they give by themselves
behind_one : (u : ℕ) (v : List ℕ) (n : ℕ) → is_high_surrogate u ≡ false
    → lossy_unit (u ∷ v) (suc n) ≡ lossy_unit v n
behind_one u v n h i =
    given (past_first u v n h i) (is_high_at v n) (is_low_at v n) (slice_index v n)
    (next_behind u v n i)

-- so they do after a pair
behind_pair : (h l : ℕ) (v : List ℕ) (n : ℕ) → is_high_surrogate l ≡ false
    → lossy_unit (h ∷ l ∷ v) (suc (suc n)) ≡ lossy_unit v n
behind_pair h l v n not_high =
    let paired : is_unpaired (h ∷ l ∷ v) (suc (suc n)) ≡ is_unpaired (l ∷ v) (suc n) =
    by_next (h ∷ l ∷ v) (suc (suc n)) ∙ sym (by_next (l ∷ v) (suc n)) in
    let same : lossy_unit (h ∷ l ∷ v) (suc (suc n)) ≡ lossy_unit (l ∷ v) (suc n) =
    λ i. given (paired i) (is_high_at v n) (is_low_at v n) (slice_index v n)
    (next_behind h (l ∷ v) (suc n) i) in
    same ∙ behind_one l v n not_high

-- what the first units give is followed by what those after them give
read_behind : (w v x : List ℕ) (at : ℕ → ℕ) → lossy_utf16_before w (at 0) ≡ x
    → ((n : ℕ) → lossy_utf16_before w (at (suc n)) ≡ lossy_utf16_before w (at n) ++ lossy_unit v n)
    → (n : ℕ) → lossy_utf16_before w (at n) ≡ x ++ lossy_utf16_before v n
read_behind w v x at first more zero = first ∙ sym (append-nil x)
read_behind w v x at first more (suc n) =
    grind (arith, common_steps, read_behind w v x at first more n)

one_is_read : (u : ℕ) (v : List ℕ) → is_high_surrogate u ≡ false → is_low_surrogate u ≡ false
    → lossy_utf16 (u ∷ v) ≡ u ∷ lossy_utf16 v
one_is_read u v h l =
    let first : lossy_utf16_before (u ∷ v) 1 ≡ u ∷ [] =
    gives_itself (u ∷ v) 0 (rw (h, l) refl) h l in
    read_behind (u ∷ v) v (u ∷ []) suc first
    (λ n. ap (λ y. lossy_utf16_before (u ∷ v) (suc n) ++ y) (behind_one u v n h)) (length v)

pair_is_read : (h l : ℕ) (v : List ℕ) → is_high_surrogate h ≡ true → is_low_surrogate l ≡ true
    → lossy_utf16 (h ∷ l ∷ v) ≡ surrogate_pair_char h l ∷ lossy_utf16 v
pair_is_read h l v p q =
    let not_high : is_high_surrogate l ≡ false = low_is_not_high l q in
    let not_low : is_low_surrogate h ≡ false = high_is_not_low h p in
    let first : lossy_utf16_before (h ∷ l ∷ v) 2 ≡ surrogate_pair_char h l ∷ [] =
    rw (p, q, not_high, not_low) refl in
    read_behind (h ∷ l ∷ v) v _ (λ n. suc (suc n)) first
    (λ n. ap (λ y. lossy_utf16_before (h ∷ l ∷ v) (suc (suc n)) ++ y)
    (behind_pair h l v n not_high))
    (length v)

pair_of : (c : ℕ) → 0x1_0000 ≤ c
    → surrogate_pair_char (0xD800 + (c - 0x1_0000) / 0x400) (0xDC00 + (c - 0x1_0000) % 0x400) ≡ c
pair_of c h = omega (arith, h)

pub text_is_read : (t : List ℕ) → all_scalars t ≡ true → lossy_utf16 (units_of t) ≡ t
text_is_read [] s = refl
text_is_read (c ∷ t) s =
    let p = and_parts _ _ s in
    let n = scalar_is_no_surrogate c p.0 in
    let rest = text_is_read t p.1 in
    ⊎_elim
    (λ h.
    ap (λ u. lossy_utf16 (u ++ units_of t)) (one_unit c h)
    ∙ one_is_read c (units_of t) n.0 n.1
    ∙ ap (λ r. c ∷ r) rest)
    (λ h.
    ap (λ u. lossy_utf16 (u ++ units_of t)) (two_units c h)
    ∙ pair_is_read _ _ (units_of t) (first_is_high c h (scalar_below c p.0)) (second_is_low c)
    ∙ (λ i. pair_of c h i ∷ rest i))
    (cases_lt c 0x1_0000)

-- what units give are characters
scalars-append : (a b : List ℕ) → all_scalars a ≡ true → all_scalars b ≡ true
    → all_scalars (a ++ b) ≡ true
scalars-append [] b p q = q
scalars-append (c ∷ a) b p q = grind (arith, common_steps, scalars-append a b)

module _ (v : List ℕ) (fits : (i : ℕ) → slice_index v i < 0x1_0000) where
  unit_scalars : (i : ℕ) → all_scalars (lossy_unit v i) ≡ true
  unit_scalars i = grind (arith, common_steps, fits i, fits (i + 1))

  lossy_scalars : (n : ℕ) → all_scalars (lossy_utf16_before v n) ≡ true
  lossy_scalars zero = refl
  lossy_scalars (suc n) =
      scalars-append (lossy_utf16_before v n) (lossy_unit v n) (lossy_scalars n) (unit_scalars n)

  pub lossy_utf8 : IsUtf8 (bytes_of (lossy_utf16 v))
  lossy_utf8 = (lossy_utf16 v, (lossy_scalars (length v), refl))

  pub lossy_read : chars (bytes_of (lossy_utf16 v)) ≡ lossy_utf16 v
  lossy_read = sym (chars_from_encodes (lossy_utf16 v) _ lossy_utf8 refl)

pub ruleset paired_units = (
  all_paired,
  none_unpaired,
  text_is_paired,
  units-lossy,
  get_or_past,
  All-get_or,
)
