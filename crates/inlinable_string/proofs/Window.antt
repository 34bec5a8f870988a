-- A text in a part of an array.
use Rattle.std.proofs.Common.{◌≡◌, ℕ, ◌+◌, ◌-◌, ◌≤◌, true, List, [], ◌∷◌, ◌++◌, length, take, drop, refl, sym, ap, ◌∙◌, arith, length-append, length-take-le, take_at, append-nil, length-drop}
use Rattle.std.specs.Char.{encode_utf8, is_ascii, IsScalar}
use Rattle.std.specs.List.{insert_slice}
use Rattle.std.specs.Str.{chars, IsUtf8}
use Rattle.std.proofs.lemmas.Bool.Decides.{nat_tests}
use Rattle.std.proofs.lemmas.List.{take_all, drop_all}
use Rattle.std.proofs.lemmas.Str.{IsUtf8-had, IsUtf8-append, IsUtf8-take, IsUtf8-drop, chars-append, IsUtf8-past_char, chars_past_char, encode_ascii, IsUtf8-encode}
use Rattle.inlinable_string.specs.Text.{bytes_of, size, IsCut, IsPlace, IsSplice, IsRemoval}
use Rattle.inlinable_string.specs.declared.inline_string.window.Window.{Window}
use Rattle.inlinable_string.proofs.Ranges.{range-utf8, range-chars, splice_from_range}
use Rattle.inlinable_string.proofs.Text.{Holds, holds, bytes_are, size_of, boundary, cut_at, popped-chars, place_within, size-pushed, char_size}

-- one character
pub size_one : (c : ℕ) → length (encode_utf8 c) ≡ size (c ∷ [])
size_one c = ap length (sym (append-nil (encode_utf8 c)))

pub char_held : {c : ℕ} {bs : List ℕ} → IsUtf8 bs → bs ≡ encode_utf8 c
    → Holds (c ∷ []) bs (length bs)
char_held {c} u e = holds u (e ∙ sym (append-nil (encode_utf8 c)))

pub chars_one : (c : ℕ) (bs : List ℕ) → IsUtf8 bs → bs ≡ encode_utf8 c → chars bs ≡ c ∷ []
chars_one c bs u e = (char_held u e).shown

-- an ASCII character is its byte
pub ascii_held : (c : ℕ) → IsScalar c → is_ascii c ≡ true → Holds (c ∷ []) (c ∷ []) 1
ascii_held c s a =
    let same : encode_utf8 c ≡ c ∷ [] = encode_ascii c (grind (arith, nat_tests)) in
    char_held (rw same at (IsUtf8-encode c s)) (sym same)

module _ {t w : List ℕ} {l : ℕ} (h : Holds t w l) where
  -- the text u appended
  pub pushed : {u s v : List ℕ} {m : ℕ} → Holds u s m → v ≡ w ++ s
      → ∥ IsUtf8 v ∥₁ × (chars v ≡ t ++ u)
  pushed {s = s} a e = (
    ∣ rw e (IsUtf8-append _ _ h.utf8 a.utf8) ∣₁,
    ap chars e ∙ rw (chars-append w s h.utf8, h.shown, a.shown) refl,
  )

  -- the text u put in at p
  pub inserted : {u s v : List ℕ} {m p : ℕ} → Holds u s m → IsPlace t p → v ≡ insert_slice w p s
      → ∥ IsUtf8 v ∥₁ × IsSplice t p u (chars v)
  inserted a at e = (
    ∣ range-utf8 h a at at (omega arith) e ∣₁,
    splice_from_range (range-chars h a at at (omega arith) e),
  )

  pub place_in : {p : ℕ} → IsPlace t p → p ≤ l
  place_in {p} at = omega (arith, place_within t p at, size_of h)

  -- the text cut at p
  pub truncated : {p : ℕ} {v : List ℕ} → IsPlace t p → v ≡ take p w
      → ∥ IsUtf8 v ∥₁ × ((rest : List ℕ) × IsCut t p (chars v) rest)
  truncated {p} at e =
      let b = boundary h at in
      (∣ rw e (IsUtf8-take w p h.utf8 b) ∣₁, (chars (drop p w), rw e (cut_at h p b)))

  -- the text without the bytes before p
  pub dropped : {p : ℕ} {v : List ℕ} → IsPlace t p → v ≡ drop p w
      → ∥ IsUtf8 v ∥₁ × (v ≡ drop p (bytes_of t))
  dropped {p} at e = (
    ∣ rw e (IsUtf8-drop w p h.utf8 (boundary h at)) ∣₁,
    e ∙ ap (drop p) (bytes_are h),
  )

  -- the text without its last character c, where front is what comes before that
  module _ (all rest front : List ℕ) (c : ℕ) (is : all ≡ bytes_of t)
      (steps : all ≡ rest ++ encode_utf8 c) (e : front ≡ rest) where
    whole : w ≡ front ++ encode_utf8 c
    whole = bytes_are h ∙ sym is ∙ steps ∙ ap (λ x. x ++ encode_utf8 c) (sym e)

    pub front_within : length front ≤ l
    front_within =
        omega (arith, h.long, ap length whole, length-append front (encode_utf8 c))

    pub popped : {v : List ℕ} → IsUtf8 front → v ≡ take (l - (l - length front)) w
        → ∥ IsUtf8 v ∥₁ × (t ≡ chars v ++ c ∷ [])
    popped {v} u taken =
        let count : l - (l - length front) ≡ length front = omega (arith, front_within) in
        let same : v ≡ front = taken ∙ ap (λ k. take k w) count ∙ ap (take (length front)) whole
        ∙ take_at front (encode_utf8 c) (length front) refl in
        (∣ rw same u ∣₁, rw same (sym h.shown ∙ popped-chars _ front c h.utf8 u whole))

  -- the bytes of the character at p taken out
  pub removed : {p : ℕ} (c : ℕ) (rest : List ℕ) {v : List ℕ} → IsPlace t p
      → drop p w ≡ encode_utf8 c ++ rest → v ≡ take p w ++ rest
      → ∥ IsUtf8 v ∥₁ × IsRemoval t p c (chars v)
  removed {p} c rest at e joined =
      let b = boundary h at in
      let front : IsUtf8 (take p w) = IsUtf8-take w p h.utf8 b in
      let back : IsUtf8 (drop p w) = IsUtf8-drop w p h.utf8 b in (
        ∣ rw joined (IsUtf8-append _ _ front (IsUtf8-past_char _ rest c back e)) ∣₁,
        record {
          front = chars (take p w);
          back = chars rest;
          cut = rw (chars_past_char (drop p w) rest c back e) at (cut_at h p b);
          joined = ap chars joined ∙ chars-append (take p w) rest front;
        },
      )

-- put in at the end
pub inserted_last : (w s : List ℕ) (l : ℕ) → length w ≡ l → insert_slice w l s ≡ w ++ s
inserted_last w s l e =
    rw (take_all l w (omega (arith, e)), drop_all l w (omega (arith, e)), append-nil) refl

-- the text t of an array, and its window there
module _ {N : ℕ} {t : List ℕ} (s : Window N) (view : chars (take s.len (drop s.start s.bytes)) ≡ t)
    (inv : (length s.bytes ≡ N) × (s.start + s.len ≤ N)
    × ∥ IsUtf8 (take s.len (drop s.start s.bytes)) ∥₁) where
  pub held : Holds t (take s.len (drop s.start s.bytes)) s.len
  held = record {
    shown = view;
    utf8 = IsUtf8-had _ inv.2;
    long = length-take-le s.len (drop s.start s.bytes)
        (omega (arith, inv.0, inv.1, length-drop s.start s.bytes));
  }

pub ruleset one_char = (chars_one, size_one, size-pushed, char_size)
