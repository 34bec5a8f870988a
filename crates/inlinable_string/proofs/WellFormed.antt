-- The states of the test for UTF-8, and the ranges of bytes that each has before it.
use Rattle.inlinable_string.proofs.Common.{common_steps, ◌≡◌, ◌↔◌, inl, ℕ, zero, suc, ◌+◌, ◌*◌, ◌/◌, ◌<◌, ◌≤◌, Bool, true, false, List, [], ◌∷◌, ◌++◌, length, take, drop, refl, ap, sym, ◌∙◌, arith, subst, IsAscii, IsUtf8, IsUtf8-append, IsUtf8-encode, encode_utf8, length-append, take_all, length-encode, len_utf8_bounds, nil_from_length, eqb-true, take-append-drop, drop_at, if◌then◌else◌, nat_lt, nat_eq, and_parts, nat_tests, slice_index, following, count_in, char_len}
use Rattle.std.specs.Int.{is_in_range}
use Rattle.std.specs.Prelude.{◌&&◌, ◌^◌, ◌-◌}
use Rattle.inlinable_string.specs.WellFormed.{Follows, nothing, ranges_of, is_state, state_of, Leads}
use Rattle.std.proofs.Math.Seq.{drop-append_seam}
use Rattle.std.proofs.lemmas.List.{drop-append-le, length-drop}
use Rattle.std.proofs.lemmas.Str.{IsUtf8-nil, IsAscii-drop}
use Rattle.std.proofs.str.Laws.{one}
use Rattle.inlinable_string.specs.declared.well_formed.TheConstants.{ROWS}
use Rattle.inlinable_string.proofs.Subparts.{Begins, first_of, len_of_char, one_more}
use Rattle.inlinable_string.proofs.Table.{is_scalar, none_in}
use Rattle.inlinable_string.proofs.Starts.{fills, filled, rowless}

-- what has to follow a byte, where these ranges were before it
abbrev pub next : List (ℕ × ℕ) → ℕ → List (ℕ × ℕ)
next [] b =
    if nat_lt b 128 then [] else (if nat_eq (length (following b)) 0 then nothing else following b)
next (r ∷ ranges) b = if is_in_range r.0 r.1 b then ranges else nothing

none_follows : (s : List ℕ) → Follows nothing s → ⊥
none_follows [] f = f
none_follows (b ∷ s) f = grind (arith, nat_tests, f.0)

-- bytes that fill the ranges, with text after them
counted : (ranges : List (ℕ × ℕ)) (s : List ℕ) → Follows ranges s
    → (count_in ranges s ≡ length ranges) × IsUtf8 (drop (length ranges) s)
    × (length ranges ≤ length s)
counted [] s f = (refl, f, omega arith)
counted (r ∷ ranges) [] f = absurd f
counted (r ∷ ranges) (b ∷ s) f = grind (arith, common_steps, counted ranges s)

follows : (ranges : List (ℕ × ℕ)) (s : List ℕ) → count_in ranges s ≡ length ranges
    → IsUtf8 (drop (length ranges) s) → Follows ranges s
follows [] s all u = u
follows (r ∷ ranges) [] all u = absurd (omega (arith, all))
follows (r ∷ ranges) (b ∷ s) all u = grind (arith, common_steps, follows ranges s)

-- what is after the first byte of a character, by the row of that byte
behind : (b : ℕ) (s : List ℕ) (c : ℕ) (rest : List ℕ) → Begins (b ∷ s) c rest
    → (count_in (following b) s ≡ length (following b)) × (drop (length (following b)) s ≡ rest)
behind b s c rest begins =
    let f = fills (b ∷ s) c rest begins in
    let long : length (encode_utf8 c) ≡ suc (length (following b)) = omega (arith, f.0) in (
      omega (arith, f.1),
      ap (λ n. drop n (b ∷ s)) (sym long) ∙ ap (drop (length (encode_utf8 c))) begins.joined
          ∙ drop_at (encode_utf8 c) rest _ refl,
    )

from_utf8 : (b : ℕ) (s : List ℕ) → IsUtf8 (b ∷ s) → Follows (following b) s
from_utf8 b s u =
    let f = first_of (b ∷ s) (omega arith) u in
    let r = behind b s f.0 f.1 f.2 in
    follows (following b) s r.0 (subst IsUtf8 (sym r.1) f.3)

-- a byte of ASCII is a character by itself
ascii_front : (b : ℕ) (s : List ℕ) → b < 128 → IsUtf8 s → IsUtf8 (b ∷ s)
ascii_front b s below u =
    let single = IsUtf8-encode b (is_scalar b (inl (omega (arith, below)))) in
    subst (λ code. IsUtf8 (code ++ s)) (one b below) (IsUtf8-append (encode_utf8 b) s single u)

-- bytes that fill the row of the first are a character
char_front : (b : ℕ) (s : List ℕ) → 0 < length (following b) → Follows (following b) s
    → IsUtf8 (b ∷ s)
char_front b s some f =
    let c = counted (following b) s f in
    let n = suc (length (following b)) in
    let long : char_len (b ∷ s) ≡ n = omega (arith, filled (b ∷ s) (omega arith) some c.0) in
    let all : 0 + n ≡ n = omega arith in
    let front = subst (λ m. IsUtf8 (take m (b ∷ s))) all
    (one_more (b ∷ s) 0 n IsUtf8-nil long (omega arith)) in
    subst IsUtf8 (take-append-drop n (b ∷ s))
    (IsUtf8-append (take n (b ∷ s)) (drop n (b ∷ s)) front c.1)

-- a byte that begins none
no_front : (b : ℕ) (s : List ℕ) → 128 ≤ b → length (following b) ≡ 0 → IsUtf8 (b ∷ s) → ⊥
no_front b s above none u =
    let f = first_of (b ∷ s) (omega arith) u in
    let len = len_of_char (b ∷ s) f.0 f.1 f.2 in
    let no = rowless (b ∷ s) (omega arith) above (nil_from_length _ none) in
    omega (arith, len, no.0, length-encode f.0, len_utf8_bounds f.0)

-- by the row of its first byte, as variables
by_row : (row : List (ℕ × ℕ)) (b : ℕ) (s : List ℕ) → (b < 128 → IsUtf8 s → IsUtf8 (b ∷ s))
    → (0 < length row → Follows row s → IsUtf8 (b ∷ s))
    → Follows (if nat_lt b 128 then [] else (if nat_eq (length row) 0 then nothing else row)) s
    → IsUtf8 (b ∷ s)
by_row row b s ascii more f = grind (arith, common_steps, none_follows)

-- what begins a text, and what has to follow it
pub begins : (b : ℕ) (s : List ℕ) → IsUtf8 (b ∷ s) ↔ Follows (next [] b) s
begins b s = (
  λ u. grind (arith, common_steps, from_utf8 b s u, no_front b s, none_in b),
  by_row (following b) b s (ascii_front b s) (char_front b s),
)

-- one byte more
pub step : (ranges : List (ℕ × ℕ)) (b : ℕ) (s : List ℕ)
    → Follows ranges (b ∷ s) ↔ Follows (next ranges b) s
step [] b s = begins b s
step (r ∷ ranges) b s = grind (arith, common_steps, none_follows)

-- whether p holds of each number below n
abbrev every_below : (ℕ → Bool) → ℕ → Bool
every_below p zero = true
every_below p (suc n) = p n && every_below p n

below_is : (p : ℕ → Bool) (n i : ℕ) → every_below p n ≡ true → i < n → p i ≡ true
below_is p zero i all less = absurd (omega (arith, less))
below_is p (suc n) i all less = grind (arith, common_steps, below_is p n i)

-- whether two lists of ranges are the same
abbrev same : List (ℕ × ℕ) → List (ℕ × ℕ) → Bool
same [] [] = true
same [] (s ∷ ss) = false
same (r ∷ rs) [] = false
same (r ∷ rs) (s ∷ ss) = (nat_eq r.0 s.0 && nat_eq r.1 s.1) && same rs ss

same_is : (rs ss : List (ℕ × ℕ)) → same rs ss ≡ true → rs ≡ ss
same_is [] [] is = refl
same_is [] (s ∷ ss) is = grind (arith, is)
same_is (r ∷ rs) [] is = grind (arith, is)
same_is (r ∷ rs) (s ∷ ss) is = grind (arith, common_steps, and_parts, eqb-true, same_is rs ss)

-- the row of a byte leads from a state to what the ranges say
abbrev row_is_right : List ℕ → ℕ → ℕ → Bool
row_is_right rows b k =
    let n = state_of (slice_index rows b / 2 ^ (6 * k)) in
    is_state n && same (ranges_of n) (next (ranges_of (6 * k)) b)

-- so each row does, which is computed
rows_lead : every_below (λ b. every_below (row_is_right ROWS.now b) 9) 256 ≡ true
rows_lead = refl

is_sixth : (n : ℕ) → is_state n ≡ true → (6 * (n / 6) ≡ n) × (n / 6 < 9)
is_sixth n is = grind (arith, common_steps)

-- one row
row_leads : (b n : ℕ) → b < 256 → is_state n ≡ true
    → (is_state (state_of (slice_index ROWS.now b / 2 ^ n)) ≡ true)
    × (ranges_of (state_of (slice_index ROWS.now b / 2 ^ n)) ≡ next (ranges_of n) b)
row_leads b n byte is =
    let sixth = is_sixth n is in
    let row = below_is (λ b. every_below (row_is_right ROWS.now b) 9) 256 b rows_lead byte in
    let to = state_of (slice_index ROWS.now b / 2 ^ (6 * (n / 6))) in
    let found = and_parts (is_state to) (same (ranges_of to) (next (ranges_of (6 * (n / 6))) b))
    (below_is (row_is_right ROWS.now b) 9 (n / 6) row sixth.1) in
    subst (λ m. (is_state (state_of (slice_index ROWS.now b / 2 ^ m)) ≡ true)
    × (ranges_of (state_of (slice_index ROWS.now b / 2 ^ m)) ≡ next (ranges_of m) b))
    sixth.0 (found.0, same_is _ _ found.1)

-- the bytes before i are read
abbrev pub IsRead : ℕ → List ℕ → ℕ → ℕ → Type 0
IsRead from bs i to = Leads from (take i bs) to

-- one byte more is read
pub read_one : (from : ℕ) (bs : List ℕ) (i bits row : ℕ) → IsRead from bs i (state_of bits)
    → i < length bs → slice_index bs i < 256 → row ≡ slice_index ROWS.now (slice_index bs i)
    → IsRead from bs (i + 1) (state_of (row / 2 ^ state_of bits))
read_one from bs i bits row read within byte is =
    grind (arith, common_steps, row_leads, step)

pub read_whole : (from : ℕ) (bs : List ℕ) (i to : ℕ) → IsRead from bs i to → length bs ≤ i
    → Leads from bs to
read_whole from bs i to read all = subst (λ l. Leads from l to) (take_all i bs all) read

-- bytes after others
pub leads_on : (from between to : ℕ) (bs cs : List ℕ) → Leads from bs between
    → Leads between cs to → Leads from (bs ++ cs) to
leads_on from between to bs cs one other = grind (arith, common_steps)

-- the bytes before the rest are read
abbrev pub IsReadTo : List ℕ → List ℕ → ℕ → Type 0
IsReadTo bs rest to = (front : List ℕ) × (bs ≡ front ++ rest) × Leads 0 front to

-- a block more is read
pub read_block : (bs rest block behind : List ℕ) (from to : ℕ) → IsReadTo bs rest from
    → rest ≡ block ++ behind → Leads from block to → IsReadTo bs behind to
read_block bs rest block behind from to (front, is, read) parts more =
    let joined : bs ≡ (front ++ block) ++ behind = grind (arith, common_steps) in
    (front ++ block, joined, leads_on 0 from to front block read more)

-- and the rest
pub read_to_end : (bs rest : List ℕ) (from to : ℕ) → IsReadTo bs rest from → Leads from rest to
    → Leads 0 bs to
read_to_end bs rest from to (front, is, read) last =
    subst (λ l. Leads 0 l to) (sym is) (leads_on 0 from to front rest read last)

-- bytes of ASCII are text by themselves
ascii_leads : (bs : List ℕ) → IsAscii bs → Leads 0 bs 0
ascii_leads [] is = record { known = refl; rest = λ s. ((λ f. f), (λ f. f)) }
ascii_leads (b ∷ bs) is =
    let low : b < 128 = is 0 in
    let rest = ascii_leads bs (λ i. is (suc i)) in record {
      known = refl;
      rest = λ s. grind (arith, common_steps, step [] b (bs ++ s), rest.rest s);
    }

pub ascii_block : (bs : List ℕ) (n : ℕ) → n ≡ 0 → IsAscii bs → Leads n bs n
ascii_block bs n first is = subst (λ m. Leads m bs m) (sym first) (ascii_leads bs is)

-- what is left to read is ASCII where a longer end of the bytes is
pub last_ascii : (bs rest : List ℕ) (n from : ℕ) → IsReadTo bs rest from
    → n + length rest ≤ length bs → IsAscii (take (length bs - n) (drop n bs)) → IsAscii rest
last_ascii bs rest n from (front, is, read) long ascii =
    let within : n ≤ length front = omega (arith, length-append front rest, ap length is, long) in
    let whole = take_all (length bs - n) (drop n bs) (omega (arith, length-drop n bs)) in
    let parts = rw (whole, is, drop-append-le n front rest within) at ascii in
    rw drop-append_seam at (IsAscii-drop _ (length (drop n front)) parts)

-- text ends in the first state alone
ends : (n : ℕ) → nat_eq n 0 ≡ false → Follows (ranges_of n) [] → ⊥
ends n is f = grind (arith, common_steps)

pub is_text : (bs : List ℕ) (n : ℕ) → Leads 0 bs n → (nat_eq n 0 ≡ true) ↔ IsUtf8 bs
is_text bs n read = grind (arith, common_steps, ends)

-- nor is it text, whatever follows, in the last
pub no_text : (bs rest : List ℕ) (n : ℕ) → IsReadTo bs rest n → n ≡ 48 → IsUtf8 bs → ⊥
no_text bs rest n (front, is, read) last u =
    none_follows rest (subst (λ m. Follows (ranges_of m) rest) last
    ((read.rest rest).0 (subst IsUtf8 is u)))
