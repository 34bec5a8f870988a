-- A loop that moves the characters it keeps to the front.
use Rattle.inlinable_string.proofs.Common.{common_steps, ◌≡◌, ℕ, ◌+◌, ◌≤◌, Bool, true, false, List, [], ◌∷◌, ◌++◌, length, take, drop, refl, sym, ap, ◌∙◌, arith, append-nil, append_assoc, drop-drop, length-drop, take_at, encode_utf8, chars, chars_from_encodes, chars-append, chars-nil, IsUtf8, IsUtf8-append, IsUtf8-encode, all_scalars, and_parts, scalars-chars, length-append, bytes_of, size}
use Rattle.std.proofs.lemmas.List.{drop_all}
use Rattle.std.proofs.lemmas.Str.{IsUtf8-past_char, chars_past_char}
use Rattle.std.specs.Fn.{Mut}
use Rattle.std.specs.List.{items_where_true}
use Rattle.std.specs.List.Retain.{IsFiltered}
use Rattle.std.specs.String.{RetainsChars}
use Rattle.inlinable_string.specs.Retained.{IsRetained}
use Rattle.inlinable_string.proofs.Window.{char_held}

size-kept : (answers : List Bool) (t : List ℕ) → size (items_where_true answers t) ≤ size t
size-kept [] [] = omega arith
size-kept [] (c ∷ t) = omega arith
size-kept (b ∷ answers) [] = omega arith
size-kept (true ∷ answers) (c ∷ t) =
    grind (arith, common_steps, size-kept answers t, length-append)
size-kept (false ∷ answers) (c ∷ t) =
    omega (arith, size-kept answers t, length-append (encode_utf8 c) (bytes_of t))

module _ {F : Type 0} (R : F → ℕ → Bool → F → Type 0) where
  -- the closure was first in the state `first`, and is now in the state `now`; of the text t the
  -- characters from `read` on are still to come, and those that were kept are the bytes before
  -- `kept`
  pub record RetainsSoFar (first : F) (t : List ℕ) (now : F) (cells : List ℕ) (read kept : ℕ)
      : Type 0 where
    pub order : kept ≤ read
    pub within : read ≤ length cells
    pub front : IsUtf8 (take kept cells)
    pub rest : IsUtf8 (drop read cells)
    pub onward : (v : List ℕ) → IsFiltered R now (chars (drop read cells)) v
        → IsFiltered R first t (chars (take kept cells) ++ v)

  pub none_read : (f : F) (cells : List ℕ) → IsUtf8 cells
      → RetainsSoFar f (chars cells) f cells 0 0
  none_read f cells u = grind (arith, common_steps, chars-nil)

  -- one call more
  pub kept_first : (f g : F) (c : ℕ) (t v : List ℕ) → R f c true g → IsFiltered R g t v
      → IsFiltered R f (c ∷ t) (c ∷ v)
  kept_first f g c t v r h =
      (true ∷ h.0, h.1, omega (arith, h.2), (g, r, h.3), ap (λ l. c ∷ l) h.4)

  pub dropped_first : (f g : F) (c : ℕ) (t v : List ℕ) → R f c false g → IsFiltered R g t v
      → IsFiltered R f (c ∷ t) v
  dropped_first f g c t v r h = (false ∷ h.0, h.1, omega (arith, h.2), (g, r, h.3), h.4)

  module _ {first now : F} {t cells : List ℕ} {read kept : ℕ} (n c : ℕ) (new : List ℕ)
      (h : RetainsSoFar first t now cells read kept)
      (e : drop read cells ≡ encode_utf8 c ++ drop n (drop read cells))
      (counted : n ≡ length (encode_utf8 c)) (inside : n ≤ length (drop read cells))
      (rest : drop (read + n) new ≡ drop (read + n) cells) (long : length new ≡ length cells) where
    to_come : drop n (drop read cells) ≡ drop (read + n) new
    to_come = drop-drop n read cells ∙ sym rest

    next_within : read + n ≤ length new
    next_within = omega (arith, h.within, inside, long, length-drop read cells)

    next_rest : IsUtf8 (drop (read + n) new)
    next_rest = rw to_come at (IsUtf8-past_char _ _ c h.rest e)

    here : chars (drop read cells) ≡ c ∷ chars (drop (read + n) new)
    here = rw to_come at (chars_past_char _ _ c h.rest e)

    one : IsUtf8 (encode_utf8 c)
    one =
        let scalars : all_scalars (c ∷ chars (drop (read + n) new)) ≡ true =
        rw here at (scalars-chars (drop read cells) h.rest) in
        IsUtf8-encode c (and_parts _ _ scalars).0

    -- a character that is kept
    pub kept_more : (after : F) → R now c true after
        → take (kept + n) new ≡ take kept cells ++ take n (drop read cells)
        → RetainsSoFar first t after new (read + n) (kept + n)
    kept_more after r moved =
        let bytes : take n (drop read cells) ≡ encode_utf8 c =
        ap (take n) e ∙ take_first in
        let front = moved ∙ ap (λ x. take kept cells ++ x) bytes in
        let shown : chars (take (kept + n) new) ≡ chars (take kept cells) ++ c ∷ [] =
        ap chars front ∙ chars-append _ _ h.front
        ∙ ap (λ x. chars (take kept cells) ++ x) (char_held one refl).shown in
        record {
          order = omega (arith, h.order);
          within = next_within;
          front = rw front (IsUtf8-append _ _ h.front one);
          rest = next_rest;
          onward = λ v k.
              rw (shown, append_assoc)
              (h.onward (c ∷ v) (rw here (kept_first now after c _ v r k)));
        }
      where
        take_first : take n (encode_utf8 c ++ drop n (drop read cells)) ≡ encode_utf8 c
        take_first = take_at _ _ n (sym counted)

    -- a character that is dropped
    pub dropped_more : (after : F) → R now c false after → take kept new ≡ take kept cells
        → RetainsSoFar first t after new (read + n) kept
    dropped_more after r same = record {
      order = omega (arith, h.order);
      within = next_within;
      front = rw same h.front;
      rest = next_rest;
      onward = λ v k. rw same (h.onward v (rw here (dropped_first now after c _ v r k)));
    }

  -- all were read
  pub all_read : {first now : F} {t cells : List ℕ} {read kept : ℕ} → length cells ≤ read
      → RetainsSoFar first t now cells read kept
      → IsFiltered R first t (chars (take kept cells))
  all_read {first} {now} {t} {cells} {read} {kept} end h =
      let empty : drop read cells ≡ [] = drop_all read cells end in
      let done : IsFiltered R now (chars (drop read cells)) [] =
      rw (empty, chars-nil) ([], now, refl, refl, refl) in
      rw append-nil at (h.onward [] done)

  -- what is kept is not longer
  pub size-retained : (f : F) (t v : List ℕ) → IsFiltered R f t v → size v ≤ size t
  size-retained f t v h = rw h.4 (size-kept h.0 t)

-- what std says of its bytes, of the characters
pub retained-chars : {F : Type 0} (g : Mut F (ℕ × Unit {0}) Bool) (f : F) {old new : List ℕ}
    → IsUtf8 old → IsUtf8 new → RetainsChars g f old new
    → IsRetained g f (chars old) (chars new)
retained-chars g f {old} {new} u v r = grind (arith, common_steps, chars_from_encodes)
