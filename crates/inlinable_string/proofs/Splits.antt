-- A text split at a character.
use Rattle.inlinable_string.proofs.Common.{◌≡◌, ℕ, ◌+◌, ◌-◌, Bool, List, ◌∷◌, ◌++◌, take, drop, refl, sym, ap, ◌∙◌, arith, subst, take-append-drop, chars, chars-append, chars_from_encodes, IsUtf8, IsUtf8-take, IsCharBoundary, len_utf8}
use Rattle.std.proofs.lemmas.Str.{IsUtf8-drop, chars_past_char}
use Rattle.std.specs.Str.{NonePass, NoCharPasses}
use Rattle.std.specs.Str.Pattern.{HasCharAt}

-- what no character of the bytes passes, none of their text does
pub none_passes : {p : ℕ → Bool} {bs t : List ℕ} → IsUtf8 bs → chars bs ≡ t → NoCharPasses p bs
    → NonePass p t
none_passes {p} {bs} {t} u e none =
    subst (NonePass p) (chars_from_encodes none.0 bs u none.1 ∙ e) none.2

-- and none of what the first bytes spell
pub none_before : {p : ℕ → Bool} (s front : List ℕ) (i : ℕ) → IsUtf8 front
    → front ≡ take (i - 0) s → NoCharPasses p (take i s) → NonePass p (chars front)
none_before {p} s front i u before none =
    let start : i - 0 ≡ i = omega arith in
    none_passes u refl (rw (before, start) none)

-- the bytes s of the text t, where the character c begins at i
module _ {c i j : ℕ} {s t : List ℕ} (u : IsUtf8 s) (e : chars s ≡ t) (at : IsCharBoundary s i)
    (has : HasCharAt c s i j) where
  pub split_round : {front back : List ℕ} → front ≡ take (i - 0) s
      → back ≡ drop (i + len_utf8 c) s → t ≡ chars front ++ c ∷ chars back
  split_round {front} {back} before after =
      let start : i - 0 ≡ i = omega arith in
      let rest = chars_past_char (drop i s) (drop j s) c (IsUtf8-drop s i u at) has.split in
      sym e ∙ sym (ap chars (take-append-drop i s))
      ∙ chars-append (take i s) (drop i s) (IsUtf8-take s i u at)
      ∙ rw (before, start, after, ← has.ends, rest) refl
