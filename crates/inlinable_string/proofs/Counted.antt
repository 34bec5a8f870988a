-- The length of the text of UTF-16, and whether a unit is unpaired, counted unit by unit.
use Rattle.inlinable_string.proofs.Common.{rules, common_steps, ◌≡◌, ℕ, zero, suc, ◌+◌, ◌-◌, ◌<◌, ◌≤◌, Bool, true, false, not, ◌&&◌, ◌||◌, ◌↔◌, List, [], ◌∷◌, length, refl, ap, sym, ◌∙◌, arith, add-one, ⊎_elim, cases_Bool, cases_lt, subst, if◌then◌else◌, slice_index, get_or_past, len_utf8, length-encode, size, is_high_at, is_low_at, is_high_before, HasUnpaired, lossy_unit, lossy_utf16_before, lossy_utf16}
use Rattle.std.specs.Char.Utf16.{is_high_surrogate, is_low_surrogate, surrogate_pair_char}
use mir.Val.{bool_byte}
use Rattle.inlinable_string.specs.Utf16Count.{unit_len, mismatch, len_before, mismatches_before}
use Rattle.inlinable_string.proofs.Text.{size-append}
use Rattle.inlinable_string.proofs.Units.{clash, given, high_range, low_range, high_is_not_low, low_is_not_high, none_unpaired}
use Rattle.inlinable_string.proofs.Window.{size_one}

size_char : (c : ℕ) → size (c ∷ []) ≡ len_utf8 c
size_char c = sym (size_one c) ∙ length-encode c

-- one more unit
pub len_more : (v : List ℕ) (i : ℕ) → len_before v (i + 1)
    ≡ len_before v i + unit_len (slice_index v i)
len_more v i = ap (len_before v) (add-one i)

pub mismatches_more : (v : List ℕ) (i : ℕ) → mismatches_before v (i + 1)
    ≡ mismatches_before v i + mismatch (is_high_before v i) (is_low_at v i)
mismatches_more v i = ap (mismatches_before v) (add-one i)

pub unit_len_bound : (u : ℕ) → unit_len u ≤ 3
unit_len_bound u = grind (arith, common_steps)

pub mismatch_bound : (a b : Bool) → mismatch a b ≤ 1
mismatch_bound a b = grind (arith, common_steps)

pub before_next : (v : List ℕ) (i : ℕ) → is_high_before v (i + 1) ≡ is_high_at v i
before_next v i = ap (is_high_before v) (add-one i)

-- what is not counted yet where a pair is begun
abbrev owed : Bool → Bool → ℕ
owed begun ended = if begun then (if ended then 2 else 1) else 0

abbrev Counts : Bool → Bool → Bool → Bool → ℕ → ℕ → Type 0
Counts begun high low ended u next =
    owed begun low + size (given ((high && not ended) || (low && not begun)) high low u next)
    ≡ unit_len u + mismatch begun low + owed high ended

high_len : (u : ℕ) → is_high_surrogate u ≡ true → unit_len u ≡ 2
high_len u h = let r = high_range u h in grind (arith, common_steps)

low_len : (u : ℕ) → is_low_surrogate u ≡ true → unit_len u ≡ 2
low_len u l = let r = low_range u l in grind (arith, common_steps)

pair_size : (u next : ℕ) → size (surrogate_pair_char u next ∷ []) ≡ 4
pair_size u next = grind (arith, common_steps, size_char (surrogate_pair_char u next))

replaced_size : size (0xFFFD ∷ []) ≡ 3
replaced_size = size_char 0xFFFD

counts_by : (begun high low ended : Bool) (u next : ℕ) → u < 0x1_0000
    → is_high_surrogate u ≡ high → is_low_surrogate u ≡ low → Counts begun high low ended u next
counts_by begun true true ended u next f h l = absurd (clash l (high_is_not_low u h))
counts_by begun true false ended u next f h l =
    grind (arith, common_steps, high_len u h, pair_size u next, replaced_size)
counts_by begun false true ended u next f h l =
    grind (arith, common_steps, low_len u l, replaced_size)
counts_by begun false false ended u next f h l = grind (arith, common_steps, size_char u)

module _ (v : List ℕ) (fits : (i : ℕ) → slice_index v i < 0x1_0000) where
  abbrev owed_at : ℕ → ℕ
  owed_at n = owed (is_high_before v n) (is_low_at v n)

  one_counts : (n : ℕ) → owed_at n + size (lossy_unit v n)
      ≡ unit_len (slice_index v n) + mismatch (is_high_before v n) (is_low_at v n)
      + owed_at (suc n)
  one_counts n = search (rules, add-one, counts_by)

  counts : (n : ℕ) → size (lossy_utf16_before v n)
      ≡ len_before v n + mismatches_before v n + owed_at n
  counts zero = refl
  counts (suc n) = grind (arith, common_steps, one_counts, size-append, counts n)

  -- at the end a pair that is begun is not ended
  pub counted : (n : ℕ) → n ≡ length v → size (lossy_utf16 v)
      ≡ len_before v n + mismatches_before v n + (if is_high_before v n then 1 else 0)
  counted n e = grind (arith, common_steps, counts, get_or_past)

-- a unit that does not match the one before it, or that one, is unpaired
begun_alone : (v : List ℕ) (n : ℕ) → is_high_before v n ≡ true → is_low_at v n ≡ false
    → HasUnpaired v
begun_alone v zero h l = absurd (clash h refl)
begun_alone v (suc n) h l =
    let e : is_low_at v (n + 1) ≡ false = ap (is_low_at v) (add-one n) ∙ l in
    (n, rw (h, e) refl)

ended_alone : (v : List ℕ) (n : ℕ) → is_high_before v n ≡ false → is_low_at v n ≡ true
    → HasUnpaired v
ended_alone v n h l = (n, rw (l, h, low_is_not_high _ l) refl)

alone : (v : List ℕ) (n : ℕ) (begun low : Bool) → is_high_before v n ≡ begun
    → is_low_at v n ≡ low → 0 < mismatch begun low → HasUnpaired v
alone v n begun low h l some = grind (arith, common_steps, begun_alone, ended_alone)

pub mismatch_unpaired : (v : List ℕ) (n : ℕ) → 0 < mismatches_before v n → HasUnpaired v
mismatch_unpaired v zero some = absurd (omega arith)
mismatch_unpaired v (suc n) some =
    ⊎_elim
    (λ (h : 0 < mismatches_before v n). mismatch_unpaired v n h)
    (λ (h : mismatches_before v n ≤ 0).
    alone v n (is_high_before v n) (is_low_at v n) refl refl (omega arith))
    (cases_lt 0 (mismatches_before v n))

pub last_unpaired : (v : List ℕ) (n : ℕ) → n ≡ length v → is_high_before v n ≡ true
    → HasUnpaired v
last_unpaired v n e h =
    begun_alone v n h (ap is_low_surrogate (get_or_past v n 0 (omega arith)))

-- where all match, none is unpaired
same_bools : (a b : Bool) → mismatch a b ≡ 0 → a ≡ b
same_bools a b e = grind (arith, common_steps)

all_match : (v : List ℕ) (n : ℕ) → mismatches_before v n ≡ 0
    → (i : ℕ) → i < n → is_high_before v i ≡ is_low_at v i
all_match v zero e i h = absurd (omega arith)
all_match v (suc n) e i h =
    ⊎_elim
    (λ (below : i < n). all_match v n (omega arith) i below)
    (λ (at : n ≤ i). let same : n ≡ i = omega arith in
    subst (λ k. is_high_before v k ≡ is_low_at v k) same
    (same_bools _ (is_low_at v n) (omega arith)))
    (cases_lt i n)

paired_bools : (high next low begun : Bool) → high ≡ next → begun ≡ low
    → ((high && not next) || (low && not begun)) ≡ false
paired_bools high next low begun e f = grind (arith, common_steps)

pub matched_paired : (v : List ℕ) (n : ℕ) → n ≡ length v → mismatches_before v n ≡ 0
    → is_high_before v n ≡ false → HasUnpaired v → ⊥
matched_paired v n e none last =
    let past : is_low_at v n ≡ false = ap is_low_surrogate (get_or_past v n 0 (omega arith)) in
    let same = λ (i : ℕ) (h : i < n + 1).
    let is : is_high_before v i ≡ is_low_at v i =
    grind (arith, all_match v n none i, last, past) in is in
    none_unpaired v (λ i h.
    paired_bools (is_high_at v i) (is_low_at v (i + 1)) (is_low_at v i) (is_high_before v i)
    (sym (before_next v i) ∙ same (i + 1) (omega arith)) (same i (omega arith)))

last_before : (v : List ℕ) (n : ℕ) → 0 < n → is_high_before v n ≡ is_high_at v (n - 1)
last_before v zero h = absurd (omega arith)
last_before v (suc n) h = ap (is_high_at v) (omega arith)

byte : (b : Bool) → bool_byte b ≡ (if b then 1 else 0)
byte true = refl
byte false = refl

pub last_counts : (v : List ℕ) (m n : ℕ) (b : Bool) → m ≡ bool_byte b → b ≡ is_high_at v (n - 1)
    → 0 < n → m ≡ (if is_high_before v n then 1 else 0)
last_counts v m n b e h some = e ∙ ap bool_byte (h ∙ sym (last_before v n some)) ∙ byte _

module _ (v : List ℕ) (n m : ℕ) (e : n ≡ length v)
    (all : m ≡ mismatches_before v n + (if is_high_before v n then 1 else 0)) where
  found : 0 < m → HasUnpaired v
  found some = search (rules, cases_Bool, last_unpaired, mismatch_unpaired)

  counted_one : HasUnpaired v → 0 < m
  counted_one some = grind (arith, common_steps, matched_paired v n e)

  pub some_unpaired : (0 < m) ↔ HasUnpaired v
  some_unpaired = (found, counted_one)

pub ruleset counted_more = (
  common_steps,
  len_more,
  mismatches_more,
  unit_len_bound,
  mismatch_bound,
  before_next,
)
