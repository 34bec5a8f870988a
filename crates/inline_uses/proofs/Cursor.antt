-- A cursor steps over one character, or past one that is typed.
use Rattle.std.proofs.Common.{◌≡◌, ◌↔◌, ℕ, ◌+◌, ◌-◌, List, [], ◌∷◌, ◌++◌, length, take, drop, Option, Some, None, IsSome, refl, sym, ap, ◌∙◌, arith, encode_utf8}
use Rattle.std.proofs.lemmas.List.{append-nil, append_assoc}
use Rattle.std.proofs.lemmas.Str.{chars_past_char}
use Rattle.std.specs.List.{slice_range}
use Rattle.std.specs.Str.{chars, IsUtf8}
use Rattle.inlinable_string.specs.Text.{bytes_of, size, cut, IsCut, IsSplice}
use Rattle.inline_uses.specs.Editor.{parts_of}

parts_are : (o : Option (List ℕ × List ℕ)) → IsSome o
    → o ≡ Some ((parts_of o).before, (parts_of o).behind)
parts_are None is = cc
parts_are (Some parts) is = refl

-- what the laws say of a text, whose bytes are bs
module _ {t : List ℕ} (decides : (q : ℕ) (a b : List ℕ) → (cut t q ≡ Some (a, b)) ↔ IsCut t q a b)
    (sizes : (bs : List ℕ) → IsUtf8 bs → size (chars bs) ≡ length bs)
    (cuts : (t bs a b : List ℕ) (p : ℕ) → IsCut t p a b → IsUtf8 bs → bs ≡ bytes_of t
    → (a ≡ chars (take p bs)) × (b ≡ chars (drop p bs)))
    (p c : ℕ) {bs piece rest : List ℕ} (some : IsSome (cut t p)) (utf8 : IsUtf8 bs)
    (whole : bs ≡ bytes_of t) (text : IsUtf8 piece) (left : IsUtf8 rest) where
  is_cut : IsCut t p (parts_of (cut t p)).before (parts_of (cut t p)).behind
  is_cut = (decides p _ _).0 (parts_are (cut t p) some)

  -- c was the last character of the piece before p
  pub stepped_left : (back : (bs rest : List ℕ) (c : ℕ) → IsUtf8 bs → IsUtf8 rest
      → bs ≡ rest ++ encode_utf8 c → chars bs ≡ chars rest ++ c ∷ [])
      → piece ≡ slice_range bs 0 p → piece ≡ rest ++ encode_utf8 c
      → ((parts_of (cut t p)).before ≡ chars rest ++ c ∷ [])
      × (cut t (length rest) ≡ Some (chars rest, c ∷ (parts_of (cut t p)).behind))
  stepped_left back piece_is end =
      let b = (parts_of (cut t p)).behind in
      let same : take p bs ≡ piece = ap (λ k. take k bs) (omega arith) ∙ sym piece_is in
      let before = (cuts t bs _ _ p is_cut utf8 whole).0 ∙ ap chars same
      ∙ back piece rest c text left end in (
        before,
        (decides (length rest) (chars rest) (c ∷ b)).1 (record {
          joined = is_cut.joined ∙ ap (λ l. l ++ b) before ∙ append_assoc (chars rest) (c ∷ []) b;
          before = sizes rest left;
        }),
      )

  -- c was the first character of the piece after p
  pub stepped_right : (joined : (a b : List ℕ) → size (a ++ b) ≡ size a + size b)
      → chars (drop p bs) ≡ chars piece → piece ≡ encode_utf8 c ++ rest
      → ((parts_of (cut t p)).behind ≡ c ∷ chars rest)
      × (cut t (size t - length rest) ≡ Some ((parts_of (cut t p)).before ++ c ∷ [], chars rest))
  stepped_right joined piece_is start =
      let a = (parts_of (cut t p)).before in
      let after = (cuts t bs _ _ p is_cut utf8 whole).1 ∙ piece_is
      ∙ chars_past_char piece rest c text start in
      let all : t ≡ (a ++ c ∷ []) ++ chars rest =
      is_cut.joined ∙ ap (λ l. a ++ l) after ∙ sym (append_assoc a (c ∷ []) (chars rest)) in
      let count = ap size all ∙ joined (a ++ c ∷ []) (chars rest) in (
        after,
        (decides (size t - length rest) (a ++ c ∷ []) (chars rest)).1 (record {
          joined = all;
          before = omega (arith, count, sizes rest left);
        }),
      )

-- the text t became v by the character c at p, of n bytes
pub typed : ((t : List ℕ) (p : ℕ) (a b : List ℕ) → (cut t p ≡ Some (a, b)) ↔ IsCut t p a b)
    → ((a b : List ℕ) → size (a ++ b) ≡ size a + size b)
    → (t v : List ℕ) (p c n : ℕ) → IsSplice t p (c ∷ []) v → n ≡ length (encode_utf8 c)
    → cut v (p + n) ≡ Some ((parts_of (cut t p)).before ++ c ∷ [], (parts_of (cut t p)).behind)
typed decides joined t v p c n is long =
    let two = joined is.front (c ∷ []) in
    let one : size (c ∷ []) ≡ n = ap length (append-nil (encode_utf8 c)) ∙ sym long in
    let parts = (decides t p is.front is.back).1 is.cut in
    rw parts ((decides v (p + n) (is.front ++ c ∷ []) is.back).1 (record {
      joined = is.joined;
      before = omega (arith, two, one, is.cut.before);
    }))
