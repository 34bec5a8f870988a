-- Texts and their bytes.
use Rattle.inlinable_string.proofs.Common.{common_steps, ◌≡◌, ℕ, Bool, ◌+◌, ◌≤◌, true, List, [], ◌∷◌, ◌++◌, length, take, drop, refl, sym, ap, ◌∙◌, arith, subst, length-append, take-append-drop, length-take-le, append-nil, Result, Ok, Err, is_ok, if◌then◌else◌, OnOk, OnErr, IsOk, Option, Some, None, MatchOption, IfSome, IfNone, IsTrue, ◌↔◌, nat_eq, rules, nil_from_length, and_parts, eqb-true, ltb-true, String, string_bytes, string_len, IsUtf8-string_bytes, length-le-encodes, length-encode, len_utf8_bounds, encode_utf8, chars, chars-IsAscii, all_scalars, IsAscii, IsUtf8, IsCharBoundary, chars-nil, encodes-chars, scalars-chars, chars-append, chars_from_encodes, encodes-append, encodes_same, IsUtf8-take, IsCharBoundary-at_seam, bytes_of, size, IsCut, IsPlace, IsSplice, IsRemoval}
use Rattle.std.proofs.lemmas.Str.{encodes-IsAscii}
use Rattle.std.proofs.lemmas.Str.Ascii.{IsAscii-nil, IsAscii-cons}
use Rattle.std.specs.Char.{is_ascii}
use Rattle.std.specs.Cmp.Lexicographic.{pointwise}
use Rattle.std.specs.List.{list_all}
use Rattle.std.specs.String.Boundary.{IsSplitPoint}

pub size-chars : (bs : List ℕ) → IsUtf8 bs → size (chars bs) ≡ length bs
size-chars bs u = ap length (encodes-chars bs u)

all_ascii : (bs : List ℕ) → list_all is_ascii bs ≡ true → IsAscii bs
all_ascii [] h = IsAscii-nil
all_ascii (b ∷ bs) h =
    IsAscii-cons b bs (ltb-true _ _ (and_parts _ _ h).0) (all_ascii bs (and_parts _ _ h).1)

-- bytes that are ASCII are characters
pub ascii_chars : (bs : List ℕ) → list_all is_ascii bs ≡ true → chars bs ≡ bs
ascii_chars bs h = chars-IsAscii bs (all_ascii bs h)

-- and have themselves as bytes
pub ascii_bytes : (bs : List ℕ) → list_all is_ascii bs ≡ true → bytes_of bs ≡ bs
ascii_bytes bs h = encodes-IsAscii bs (all_ascii bs h)

-- the bytes w of a text t are bs exactly if its characters are those of bs
module _ {t w bs : List ℕ} {b : Bool} (u : IsUtf8 w) (v : IsUtf8 bs) (shown : chars w ≡ t)
    (compared : b ≡ pointwise nat_eq w bs) where
  same : (IsTrue b → w ≡ bs) × (w ≡ bs → IsTrue b)
  same = search (rules, compared)

  pub same_text : (IsTrue b → t ≡ chars bs) × (t ≡ chars bs → IsTrue b)
  same_text = (
    λ e. sym shown ∙ ap chars (same.0 e),
    λ e. same.1 (sym (encodes-chars w u) ∙ ap bytes_of (shown ∙ e) ∙ encodes-chars bs v),
  )

  pub same_ascii : list_all is_ascii bs ≡ true → (IsTrue b → t ≡ bs) × (t ≡ bs → IsTrue b)
  same_ascii a = subst (λ s. (IsTrue b → t ≡ s) × (t ≡ s → IsTrue b)) (ascii_chars bs a) same_text

pub size-append : (a b : List ℕ) → size (a ++ b) ≡ size a + size b
size-append a b = ap length (encodes-append a b) ∙ length-append (bytes_of a) (bytes_of b)

-- the l bytes w are UTF-8, that of the text t
pub record Holds (t w : List ℕ) (l : ℕ) : Type 0 where
  pub shown : chars w ≡ t
  pub utf8 : IsUtf8 w
  pub long : length w ≡ l

pub holds : {t bs : List ℕ} → IsUtf8 bs → bs ≡ bytes_of t → Holds t bs (length bs)
holds {t} {bs} u e = search (rules, chars_from_encodes)

pub holds_chars : {bs : List ℕ} → IsUtf8 bs → Holds (chars bs) bs (length bs)
holds_chars u = record { shown = refl; utf8 = u; long = refl }

-- the second of two texts has characters alone if both together do
scalars-back : (a b : List ℕ) → all_scalars (a ++ b) ≡ true → all_scalars b ≡ true
scalars-back [] b h = h
scalars-back (x ∷ a) b h = scalars-back a b (and_parts _ _ h).1

module _ {t w : List ℕ} {l : ℕ} (h : Holds t w l) where
  pub bytes_are : w ≡ bytes_of t
  bytes_are = sym (encodes-chars w h.utf8) ∙ ap bytes_of h.shown

  pub size_of : size t ≡ l
  size_of = ap length (sym bytes_are) ∙ h.long

  -- a place of the text is a boundary of its bytes
  pub boundary : {p : ℕ} → IsPlace t p → IsCharBoundary w p
  boundary at =
      let joined : w ≡ bytes_of at.0 ++ bytes_of at.1 =
      bytes_are ∙ ap bytes_of at.2.joined ∙ encodes-append at.0 at.1 in
      let scalars : all_scalars t ≡ true = ap all_scalars (sym h.shown) ∙ scalars-chars w h.utf8 in
      let back = scalars-back at.0 at.1 (rw at.2.joined at scalars) in
      subst (IsCharBoundary w) at.2.before
      (IsCharBoundary-at_seam w _ (bytes_of at.1) joined (at.1, (back, refl)))

  -- a cut of the bytes is a cut of the characters
  pub cut_at : (p : ℕ) → IsCharBoundary w p → IsCut t p (chars (take p w)) (chars (drop p w))
  cut_at p at =
      let front : IsUtf8 (take p w) = IsUtf8-take w p h.utf8 at in record {
        joined = sym h.shown ∙ sym (ap chars (take-append-drop p w))
            ∙ chars-append (take p w) (drop p w) front;
        before = size-chars (take p w) front ∙ length-take-le p w at.0;
      }

pub split_point : {bs : List ℕ} {p : ℕ} → IsUtf8 bs → IsPlace (chars bs) p → IsSplitPoint bs p
split_point u at = let b = boundary (holds_chars u) at in (b.0, λ _. b.1)

-- what std says of its bytes, of the characters
pub pushed-chars : {T E : Type 0} (r : Result T E) (old s new : List ℕ) → IsUtf8 old
    → new ≡ (if is_ok r then old ++ s else old) → OnOk r (chars new ≡ chars old ++ chars s)
pushed-chars (Ok x) old s new u e = ap chars e ∙ chars-append old s u
pushed-chars (Err x) old s new u e = tt

-- the characters of bytes that end with one
pub popped-chars : (old new : List ℕ) (c : ℕ) → IsUtf8 old → IsUtf8 new
    → old ≡ new ++ encode_utf8 c → chars old ≡ chars new ++ c ∷ []
popped-chars old new c u v e =
    let bytes = encodes-append (chars new) (c ∷ []) in
    sym (chars_from_encodes _ old u (bytes ∙ rw (encodes-chars new v, append-nil) (sym e)))

-- and of bytes that begin with one
pub stepped-chars : (old new : List ℕ) (c : ℕ) → IsUtf8 old → IsUtf8 new
    → old ≡ encode_utf8 c ++ new → chars old ≡ c ∷ chars new
stepped-chars old new c u v e =
    sym (chars_from_encodes _ old u (ap (λ l. encode_utf8 c ++ l) (encodes-chars new v) ∙ sym e))

-- the number of bytes that std counts
pub size-string : {Z : Type 0} (s : String Z) → size (chars (string_bytes s)) ≡ string_len s
size-string s = size-chars _ (IsUtf8-string_bytes s) ∙ sym s.bytes.ok.0

pub popped-text : (r : Option ℕ) (old new : List ℕ) → IsUtf8 old → IsUtf8 new
    → IfSome r (λ c. old ≡ new ++ encode_utf8 c) → IfNone r (length old ≡ 0)
    → length new ≤ length old
    → MatchOption r ((chars old ≡ []) × (chars new ≡ [])) (λ c. chars old ≡ chars new ++ c ∷ [])
popped-text None old new u v some none le = search (rules, nil_from_length, chars-nil)
popped-text (Some c) old new u v some none le = popped-chars old new c u v some

-- only the empty text has no byte
pub nil_from_size : (t : List ℕ) → size t ≡ 0 → t ≡ []
nil_from_size t h = nil_from_length t (omega (arith, h, length-le-encodes t))

pub empty_at_size : (t : List ℕ) → IsTrue (nat_eq (size t) 0) ↔ (t ≡ [])
empty_at_size t = (λ h. nil_from_size t (eqb-true _ 0 h), λ e. rw e refl)

-- what is put in at the end is pushed
pub splice_at_end : (t u v : List ℕ) (p : ℕ) → p ≡ size t → IsSplice t p u v → v ≡ t ++ u
splice_at_end t u v p end s = search (rules, size-append, nil_from_size)

pub splice_at_start : (t u v : List ℕ) → IsSplice t 0 u v → v ≡ u ++ t
splice_at_start t u v s = search (rules, nil_from_size)

-- the text stays where nothing is put in, and where a refusal leaves it
pub kept : {T E : Type 0} (r : Result T E) (t v : List ℕ) (p : ℕ)
    → OnOk r (IsSplice t p (chars []) v) → OnErr r (v ≡ t) → v ≡ t
kept (Ok x) t v p ok err = (rw (chars-nil, append-nil) at ok.joined) ∙ sym ok.cut.joined
kept (Err x) t v p ok err = err

-- bytes that overwrite all others
pub replaced : {T E : Type 0} (r : Result T E) (s new : List ℕ) → IsUtf8 s
    → new ≡ (if is_ok r then [] ++ s else []) → IsOk r → bytes_of (chars new) ≡ s
replaced (Ok x) s new u e h = rw e (encodes-chars s u)
replaced (Err x) s new u e h = cc

pub same_bytes : (t v : List ℕ) → all_scalars t ≡ true → bytes_of t ≡ bytes_of v → t ≡ v
same_bytes t v are same = encodes_same t v same

-- how many bytes there are after an edit
pub size-pushed : (t u v : List ℕ) → v ≡ t ++ u → size v ≡ size t + size u
size-pushed t u v e = ap size e ∙ size-append t u

pub size-spliced : {t u v : List ℕ} {p : ℕ} → IsSplice t p u v → size v ≡ size t + size u
size-spliced s = rw (s.joined, s.cut.joined) (simp size-append (omega arith))

pub size-removed : {t v : List ℕ} {p c : ℕ} → IsRemoval t p c v → size v + size (c ∷ []) ≡ size t
size-removed {c = c} r = grind (arith, common_steps, size-append)

-- where places are
pub place_within : (t : List ℕ) (p : ℕ) → IsPlace t p → p ≤ size t
place_within t p at = omega (arith, ap size at.2.joined, size-append at.0 at.1, at.2.before)

pub place_behind : {t u v : List ℕ} {p : ℕ} → IsSplice t p u v → IsPlace v (p + size u)
place_behind {u = u} s = search (rules, size-append)

pub place_left : {t v : List ℕ} {p c : ℕ} → IsRemoval t p c v → IsPlace v p
place_left r = (r.front, r.back, record { joined = r.joined; before = r.cut.before })

-- a string of ASCII is put in as it is
pub ascii-pushed_str : (bs t v : List ℕ) → list_all is_ascii bs ≡ true → v ≡ t ++ chars bs
    → v ≡ t ++ bs
ascii-pushed_str bs t v a e = e ∙ ap (λ s. t ++ s) (ascii_chars bs a)

pub ascii-spliced_str : {t v : List ℕ} {p : ℕ} (bs : List ℕ) → list_all is_ascii bs ≡ true
    → IsSplice t p (chars bs) v → IsSplice t p bs v
ascii-spliced_str {t} {v} {p} bs a s = subst (λ u. IsSplice t p u v) (ascii_chars bs a) s

-- the same of a string with the bytes bs
module _ {bs : List ℕ} (u : IsUtf8 bs) where
  pub size-pushed_str : (t v : List ℕ) → v ≡ t ++ chars bs → size v ≡ size t + length bs
  size-pushed_str t v e = rw (size-chars bs u) at (size-pushed t (chars bs) v e)

  pub bytes-pushed_str : (t v : List ℕ) → v ≡ t ++ chars bs → bytes_of v ≡ bytes_of t ++ bs
  bytes-pushed_str t v e = rw e (rw (encodes-chars bs u) at (encodes-append t (chars bs)))

  pub size-spliced_str : {t v : List ℕ} {p : ℕ} → IsSplice t p (chars bs) v
      → size v ≡ size t + length bs
  size-spliced_str s = rw (size-chars bs u) at (size-spliced s)

  pub place_behind_str : {t v : List ℕ} {p : ℕ} → IsSplice t p (chars bs) v
      → IsPlace v (p + length bs)
  place_behind_str s = rw (size-chars bs u) at (place_behind s)

pub size-popped : (r : Option ℕ) (old new : List ℕ)
    → MatchOption r ((old ≡ []) × (new ≡ [])) (λ c. old ≡ new ++ c ∷ [])
    → MatchOption r (size old ≡ 0) (λ c. size new + size (c ∷ []) ≡ size old)
size-popped None old new h = ap size h.0
size-popped (Some c) old new h = sym (ap size h ∙ size-append new (c ∷ []))

pub size_bound : (r : Option ℕ) (old new : List ℕ)
    → MatchOption r ((old ≡ []) × (new ≡ [])) (λ c. old ≡ new ++ c ∷ []) → size new ≤ size old
size_bound None old new h = omega (arith, ap size h.0, ap size h.1)
size_bound (Some c) old new h = omega (arith, size-popped (Some c) old new h)

-- a character has at most four bytes
pub char_size : (c : ℕ) → size (c ∷ []) ≤ 4
char_size c = search (rules, length-encode, len_utf8_bounds)

pub ruleset one_step = (popped-chars, stepped-chars)

pub ruleset parts = (encodes-append, encodes-chars, chars_from_encodes)

pub ruleset sizes = (size-append, char_size, size-chars, size-string)

pub ruleset no_bytes = (chars-nil, nil_from_size, empty_at_size)

pub ruleset overwritten = (replaced, size-string)
