-- Texts of which ASCII alone is changed, byte by byte.
use Rattle.inlinable_string.proofs.Common.{common_steps, ◌≡◌, ℕ, ◌<◌, ◌≤◌, true, List, [], ◌∷◌, length, map, get_or, suc, refl, sym, ap, ◌∙◌, arith, map-append, cases_lt, encode_utf8, all_scalars, IsUtf8, scalars-chars, chars, length-map, bytes_of, size}
use Rattle.std.specs.Char.{to_ascii_lowercase, to_ascii_uppercase}
use Rattle.std.proofs.lemmas.Str.{encode_ascii, inside_one}
use Rattle.std.proofs.lemmas.Str.Ascii.{lowercase_ascii, lowercase_is, uppercase_ascii, uppercase_is}
use Rattle.inlinable_string.proofs.Text.{Holds, holds, bytes_are}

-- a character past ASCII has no byte of ASCII
past_ascii : (c k : ℕ) → 128 ≤ c → k < length (encode_utf8 c) → 128 ≤ get_or (encode_utf8 c) k 0
past_ascii c k high within = grind (arith, common_steps, inside_one c [] (encode_utf8 c) k)

-- f changes ASCII to ASCII, and nothing else
module _ (f : ℕ → ℕ) (low : (b : ℕ) → b < 128 → f b < 128)
    (high : (b : ℕ) → 128 ≤ b → f b ≡ b) where
  kept : (bs : List ℕ) → ((k : ℕ) → k < length bs → 128 ≤ get_or bs k 0) → map f bs ≡ bs
  kept [] past = refl
  kept (b ∷ bs) past =
      rw (high b (past 0 (omega arith)), kept bs (λ k h. past (suc k) (omega arith))) refl

  kept_char : (c : ℕ) → 128 ≤ c → map f (encode_utf8 c) ≡ encode_utf8 c
  kept_char c h = kept (encode_utf8 c) (λ k within. past_ascii c k h within)

  char_changed : (c : ℕ) → map f (encode_utf8 c) ≡ encode_utf8 (f c)
  char_changed c = grind (arith, common_steps, encode_ascii, kept_char)

  bytes_changed : (t : List ℕ) → map f (bytes_of t) ≡ bytes_of (map f t)
  bytes_changed [] = refl
  bytes_changed (c ∷ t) =
      map-append f (encode_utf8 c) (bytes_of t) ∙ rw (char_changed c, bytes_changed t) refl

  scalars_changed : (t : List ℕ) → all_scalars t ≡ true → all_scalars (map f t) ≡ true
  scalars_changed [] are = refl
  scalars_changed (c ∷ t) are = grind (arith, common_steps, low, high, cases_lt, scalars_changed t)

  -- the changed bytes are those of the changed characters
  changed : {t w : List ℕ} {l : ℕ} → Holds t w l → Holds (map f t) (map f w) (length (map f w))
  changed {t} h =
      let are : all_scalars t ≡ true = ap all_scalars (sym h.shown) ∙ scalars-chars _ h.utf8 in
      let same = ap (map f) (bytes_are h) ∙ bytes_changed t in
      holds (map f t, (scalars_changed t are, sym same)) same

  -- the text of changed bytes
  cased : {t w v : List ℕ} {l : ℕ} → Holds t w l → v ≡ map f w
      → ∥ IsUtf8 v ∥₁ × (chars v ≡ map f t) × (bytes_of (chars v) ≡ map f (bytes_of t))
      × (size (chars v) ≡ size t)
  cased {t} h e =
      let new = changed h in
      let text = ap chars e ∙ new.shown in
      let bytes = ap bytes_of text ∙ sym (bytes_changed t) in
      (∣ rw e new.utf8 ∣₁, text, bytes, ap length bytes ∙ length-map (bytes_of t) f)

module _ {t w v : List ℕ} {l : ℕ} (h : Holds t w l) where
  pub uppercased : v ≡ map to_ascii_uppercase w → ∥ IsUtf8 v ∥₁
      × (chars v ≡ map to_ascii_uppercase t)
      × (bytes_of (chars v) ≡ map to_ascii_uppercase (bytes_of t)) × (size (chars v) ≡ size t)
  uppercased =
      cased to_ascii_uppercase uppercase_ascii (λ b past. (uppercase_is b).2 (omega arith)) h

  pub lowercased : v ≡ map to_ascii_lowercase w → ∥ IsUtf8 v ∥₁
      × (chars v ≡ map to_ascii_lowercase t)
      × (bytes_of (chars v) ≡ map to_ascii_lowercase (bytes_of t)) × (size (chars v) ≡ size t)
  lowercased =
      cased to_ascii_lowercase lowercase_ascii (λ b past. (lowercase_is b).2 (omega arith)) h
