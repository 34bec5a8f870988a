-- The table of the ASCII characters with which tokens go on, and a text that begins with some.
use Rattle.std.proofs.Common.{◌≡◌, ℕ, suc, ◌+◌, ◌<◌, ◌≤◌, List, [], ◌∷◌, ◌++◌, length, take, drop, get_or, Bool, true, false, ◌&&◌, not, cond, nat_eq, nat_lt, bit_and, inl, inr, refl, sym, ap, ◌∙◌, arith, lit<, take-add}
use Rattle.std.specs.List.{prefix_len, take_while}
use Rattle.std.specs.Str.{chars, IsUtf8, IsAscii, IsCharBoundary}
use Rattle.std.proofs.Math.Seq.{drop-cons}
use Rattle.std.proofs.lemmas.Bool.{agree_below, agree_below_at, and_parts, ltb-true, lt-ltb}
use Rattle.std.proofs.lemmas.List.{append-nil, get_or-take, get_or_past, length-take-le, take-append-drop}
use Rattle.std.proofs.lemmas.List.Sums.{take_while-cons, prefix_len_passes, prefix_len_stops, prefix_len-le-length}
use Rattle.std.proofs.lemmas.Str.{IsCharBoundary-from_take, IsUtf8-from_ascii, IsUtf8-drop, chars-IsAscii, chars-append, chars_past_char, encode_ascii}
use Rattle.std.proofs.str.Laws.{order}
use Rattle.inline_uses.specs.declared.tokens.Kind.{Kind}
use Rattle.inline_uses.specs.declared.tokens.ascii.TheConstants.{CLASSES}
use Rattle.inline_uses.specs.Ascii.{class_of, goes_on_in_ascii}

abbrev has_flag : ℕ → ℕ → Bool
has_flag flag b = not (nat_eq (bit_and (get_or CLASSES b 0) flag) 0)

-- what computing finds of all bytes holds of each
pub from_table : (kind : Kind) (flag b : ℕ) → flag ≡ class_of kind → b < 256
    → agree_below (has_flag (class_of kind)) (goes_on_in_ascii kind) 256 ≡ true
    → has_flag flag b ≡ goes_on_in_ascii kind b
from_table kind flag b is lt same =
    ap (λ f. has_flag f b) is
    ∙ agree_below_at (has_flag (class_of kind)) (goes_on_in_ascii kind) 256 b same lt

-- the test of an ASCII character with which a token goes on, for any test of characters
abbrev in_ascii : (ℕ → Bool) → ℕ → Bool
in_ascii t b = nat_lt b 128 && t b

-- characters that go on are taken before the rest
taken : (t : ℕ → Bool) (s rest : List ℕ) → let n = prefix_len (in_ascii t) s in
    take_while t (take n s ++ rest) ≡ take n s ++ take_while t rest
taken t [] rest = refl
taken t (b ∷ s) rest = by (in_ascii t b) refl (taken t s rest)
  where
    n : ℕ
    n = prefix_len (in_ascii t) s

    by : (x : Bool) → in_ascii t b ≡ x
        → take_while t (take n s ++ rest) ≡ take n s ++ take_while t rest
        → take_while t (take (cond x (1 + n) 0) (b ∷ s) ++ rest)
        ≡ take (cond x (1 + n) 0) (b ∷ s) ++ take_while t rest
    by true is same =
        let more : 1 + n ≡ suc n = omega arith in
        let goes_on = (and_parts (nat_lt b 128) (t b) is).1 in
        rw (more, take_while-cons, goes_on) (ap (λ l. b ∷ l) same)
    by false is same = refl

-- the characters of a text that go on, as they are counted
module _ (t : ℕ → Bool) (s : List ℕ) {n : ℕ} (is : n ≡ prefix_len (in_ascii t) s) where
  within : n ≤ length s
  within = rw is (prefix_len-le-length (in_ascii t) s)

  -- they are ASCII, and the text may be cut after them
  all_ascii : IsAscii (take n s)
  all_ascii i = elim (order i n) [
    | inl before ↦ rw get_or-take (ltb-true (get_or s i 0) 128
        (and_parts _ _ (prefix_len_passes (in_ascii t) s i 0 (rw is at before))).0)
    | inr past ↦ rw (get_or_past (take n s) i 0
        (omega (arith, past, length-take-le n s within))) (lit< tt)
  ]

  pub cut_after : IsUtf8 s → IsCharBoundary s n
  cut_after utf8 =
      IsCharBoundary-from_take s n utf8 within (IsUtf8-from_ascii (take n s) all_ascii)

  chars_after_it : (rest : List ℕ) → chars (take n s ++ rest) ≡ take n s ++ chars rest
  chars_after_it rest = chars-append (take n s) rest (IsUtf8-from_ascii (take n s) all_ascii)
      ∙ ap (λ l. l ++ chars rest) (chars-IsAscii (take n s) all_ascii)

  -- what is taken of the text, by what is taken after them
  taken_after : take_while t (chars s) ≡ take n s ++ take_while t (chars (drop n s))
  taken_after = ap (λ l. take_while t (chars l)) (sym (take-append-drop n s))
      ∙ ap (take_while t) (chars_after_it (drop n s))
      ∙ (rw (← is) at (taken t s (chars (drop n s))))

  -- at a character of ASCII with which a token doesn't go on
  pub ends_here : IsUtf8 s → n < length s → get_or s n 0 < 128
      → chars (take n s) ≡ take_while t (chars s)
  ends_here utf8 short low =
      let b = get_or s n 0 in
      let rest = drop (suc n) s in
      let stops : t b ≡ false = rw (← is, lt-ltb b 128 low)
      at (prefix_len_stops (in_ascii t) s 0 (rw is at short)) in
      let left : chars (drop n s) ≡ b ∷ chars rest =
      chars_past_char (drop n s) rest b (IsUtf8-drop s n utf8 (cut_after utf8))
      (drop-cons s n 0 short ∙ ap (λ l. l ++ rest) (sym (encode_ascii b low))) in
      chars-IsAscii (take n s) all_ascii
      ∙ sym (taken_after ∙ rw (left, take_while-cons, stops) (append-nil (take n s)))

  -- and with more that is taken after them
  pub ends_later : (m : ℕ) → chars (take m (drop n s)) ≡ take_while t (chars (drop n s))
      → chars (take (n + m) s) ≡ take_while t (chars s)
  ends_later m after = ap chars (take-add n m s) ∙ chars_after_it (take m (drop n s))
      ∙ ap (λ l. take n s ++ l) after ∙ sym taken_after
