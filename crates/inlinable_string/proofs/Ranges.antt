-- A text with one of its ranges replaced.
use Rattle.inlinable_string.proofs.Common.{common_steps, rules, Result, Ok, Err, IsOk, OnErr, OnOk, MatchResult, ◌≡◌, ℕ, ◌+◌, ◌-◌, ◌≤◌, ◌<◌, true, List, [], ◌∷◌, ◌++◌, length, take, drop, refl, sym, ap, ◌∙◌, arith, subst, length-take-le, take_at, drop_at, encodes-append, encodes-chars, chars, append-nil, chars-append, chars-nil, chars_from_encodes, IsUtf8, IsUtf8-take, IsUtf8-append, insert_slice, remove_range, bytes_of, size, IsCut, IsPlace, IsSplice}
use Rattle.std.proofs.lemmas.Str.{IsUtf8-drop}
use Rattle.std.specs.Char.{is_ascii}
use Rattle.std.specs.List.{list_all, replace_range, slice_range}
use Rattle.inlinable_string.specs.Ranges.{IsRangeReplaced, IsDrained}
use Rattle.inlinable_string.proofs.Parts.{front_bytes, back_bytes}
use Rattle.inlinable_string.proofs.Text.{Holds, ascii_chars, bytes_are, boundary, cut_at, nil_from_size, place_within, size-append, size-chars, size_of}

-- of two cuts of a text, the front of the earlier begins that of the later
nested : (a b c d : List ℕ) → a ++ b ≡ c ++ d → size a ≤ size c
    → (m : List ℕ) × (c ≡ a ++ m) × (b ≡ m ++ d)
nested [] b c d e le = (c, refl, e)
nested (x ∷ a) b [] d e le =
    let none : x ∷ a ≡ [] = nil_from_size (x ∷ a) (omega (arith, le)) in cc
nested (x ∷ a) b (y ∷ c) d e le =
    let shorter : size a ≤ size c = grind (arith, common_steps, size-append) in
    let m = nested a b c d (cc) shorter in
    (m.0, cc, m.2)

-- what stands between two cuts replaced
replaced_between : {t u v a b c d : List ℕ} {p q : ℕ} → IsCut t p a b → IsCut t q c d → p ≤ q
    → v ≡ a ++ u ++ d → IsRangeReplaced t p q u v
replaced_between {a = a} {b} {c} {d} x y order e = grind (arith, common_steps, nested)

-- bytes of a text taken out between two places, and others put in there
pub cut_then_put : {t w v : List ℕ} {l p : ℕ} (s : List ℕ) (q : ℕ) → Holds t w l → IsPlace t p
    → v ≡ insert_slice (remove_range w p q) p s → v ≡ replace_range w p q s
cut_then_put {t} {w} {v} {l} {p} s q h at e =
    let long : p ≤ length w = omega (arith, place_within t p at, size_of h, h.long) in
    let short = length-take-le p w long in
    e ∙ rw (take_at (take p w) (drop q w) p short, drop_at (take p w) (drop q w) p short) refl

-- the bytes of a text between two places replaced by those of the text u
module _ {t w u s v : List ℕ} {l m p q : ℕ} (h : Holds t w l) (a : Holds u s m)
    (from : IsPlace t p) (to : IsPlace t q) (order : p ≤ q) (e : v ≡ replace_range w p q s) where
  front : IsUtf8 (take p w)
  front = IsUtf8-take w p h.utf8 (boundary h from)

  both : IsUtf8 (take p w ++ s)
  both = IsUtf8-append _ _ front a.utf8

  pub range-utf8 : IsUtf8 v
  range-utf8 = rw e (IsUtf8-append _ _ both (IsUtf8-drop w q h.utf8 (boundary h to)))

  pub range-chars : IsRangeReplaced t p q u (chars v)
  range-chars =
      replaced_between (cut_at h p (boundary h from)) (cut_at h q (boundary h to)) order
      (ap chars e ∙ chars-append _ (drop q w) both
      ∙ rw (chars-append (take p w) s front, a.shown) refl)

  pub range-bytes : bytes_of (chars v) ≡ replace_range (bytes_of t) p q s
  range-bytes =
      encodes-chars v range-utf8 ∙ e ∙ ap (λ x. replace_range x p q s) (bytes_are h)

-- a replaced range is one of the bytes
pub bytes-replaced : {t u v : List ℕ} {p q : ℕ} → IsRangeReplaced t p q u v
    → bytes_of v ≡ replace_range (bytes_of t) p q (bytes_of u)
bytes-replaced {u = u} r = grind (arith, common_steps, back_bytes, encodes-append, front_bytes)

-- of an empty range, and of the whole text
pub splice_from_range : {t u v : List ℕ} {p : ℕ} → IsRangeReplaced t p p u v → IsSplice t p u v
splice_from_range r = grind (arith, common_steps, nil_from_size, size-append)

pub range_from_splice : {t u v : List ℕ} {p : ℕ} → IsSplice t p u v → IsRangeReplaced t p p u v
range_from_splice s = replaced_between s.cut s.cut (omega arith) s.joined

pub whole-replaced : {t u v : List ℕ} → IsRangeReplaced t 0 (size t) u v → v ≡ u
whole-replaced {u = u} r = search (rules, size-append, nil_from_size)

-- the clauses on a range that was replaced
pub size-replaced_range : {t u v : List ℕ} {p q : ℕ} → IsRangeReplaced t p q u v
    → size v + (q - p) ≡ size t + size u
size-replaced_range {u = u} r = grind (arith, common_steps, size-append)

pub place_past_range : {t u v : List ℕ} {p q : ℕ} → IsRangeReplaced t p q u v
    → IsPlace v (p + size u)
place_past_range {u = u} r = search (rules, size-append)

module _ {bs t v : List ℕ} {p q : ℕ} (u : IsUtf8 bs) (r : IsRangeReplaced t p q (chars bs) v) where
  pub size-replaced_str : size v + (q - p) ≡ size t + length bs
  size-replaced_str = rw (size-chars bs u) at (size-replaced_range r)

  pub place_past_str : IsPlace v (p + length bs)
  place_past_str = rw (size-chars bs u) at (place_past_range r)

pub ascii-replaced : {t v : List ℕ} {p q : ℕ} (bs : List ℕ) → list_all is_ascii bs ≡ true
    → IsRangeReplaced t p q (chars bs) v → IsRangeReplaced t p q bs v
ascii-replaced {t} {v} {p} {q} bs a r =
    subst (λ u. IsRangeReplaced t p q u v) (ascii_chars bs a) r

-- a call that fails only for want of room succeeds where there is room
pub ok_where_it_fits : {T E : Type 0} (r : Result T E) {m n : ℕ} → OnErr r (m < n) → n ≤ m
    → IsOk r
ok_where_it_fits (Ok x) full le = refl
ok_where_it_fits (Err x) full le = absurd (omega (arith, full, le))

-- a range replaced by nothing is drained
pub part_drained : {t v bs : List ℕ} {p q : ℕ} → IsUtf8 bs
    → bs ≡ slice_range (bytes_of t) p q → IsRangeReplaced t p q [] v → IsDrained t p q (chars bs) v
part_drained {t} {v} {bs} {p} {q} u e r =
    let sizes : size r.middle ≡ q - p =
    omega (arith, size-append r.front r.middle, r.before.before, r.after.before) in
    let middle : take (q - p) (bytes_of (r.middle ++ r.back)) ≡ bytes_of r.middle =
    ap (take (q - p)) (encodes-append r.middle r.back)
    ∙ take_at (bytes_of r.middle) (bytes_of r.back) (q - p) sizes in
    let bytes : bs ≡ bytes_of r.middle =
    e ∙ ap (take (q - p)) (sym (back_bytes r.before)) ∙ middle in
    rw (sym (chars_from_encodes r.middle bs u (sym bytes))) (record {
      front = r.front;
      back = r.back;
      before = r.before;
      after = r.after;
      joined = rw append-nil at r.joined;
    })

pub drained : {T E : Type 0} (r : Result T E) {t v bs : List ℕ} {p q m : ℕ} → IsUtf8 bs
    → bs ≡ slice_range (bytes_of t) p q
    → MatchResult r (λ _. size t + 0 ≤ m) (λ _. m < size t + 0) → size t ≤ m
    → OnOk r (IsRangeReplaced t p q (chars []) v) → IsDrained t p q (chars bs) v
drained (Ok x) u e fits le ok = part_drained u e (rw chars-nil at ok)
drained (Err x) u e fits le ok = absurd (omega (arith, fits, le))

-- what was drained and what is left, in bytes
pub drained-bytes : {t u v : List ℕ} {p q : ℕ} → IsDrained t p q u v
    → (bytes_of u ≡ slice_range (bytes_of t) p q)
    × (bytes_of v ≡ remove_range (bytes_of t) p q)
drained-bytes {t} {u} {v} {p} {q} d =
    let sizes : size u ≡ q - p =
    omega (arith, size-append d.front u, d.before.before, d.after.before) in (
      sym (ap (take (q - p)) (sym (back_bytes d.before) ∙ encodes-append u d.back)
          ∙ take_at (bytes_of u) (bytes_of d.back) (q - p) sizes),
      ap bytes_of d.joined ∙ encodes-append d.front d.back
          ∙ rw (front_bytes d.before, back_bytes d.after) refl,
    )

pub size-drained : {t u v : List ℕ} {p q : ℕ} → IsDrained t p q u v → size v + size u ≡ size t
size-drained d = grind (arith, common_steps, size-append)

-- a call that can't fail leaves what it says
pub granted : {T E P : Type 0} (r : Result T E) → IsOk r → OnOk r P → P
granted (Ok x) is p = p
granted (Err x) is p = cc
