-- The two parts of a text that is split.
use Rattle.inlinable_string.proofs.Common.{◌≡◌, ℕ, ◌+◌, List, [], ◌++◌, take, drop, sym, ap, ◌∙◌, arith, take_at, drop_at, append-nil, chars, encodes-append, IsUtf8, bytes_of, size, IsCut, IsPlace}
use Rattle.inlinable_string.proofs.Text.{holds_chars, boundary, cut_at, size-append, nil_from_size}

module _ {t a b : List ℕ} {p : ℕ} (h : IsCut t p a b) where
  both_bytes : bytes_of t ≡ bytes_of a ++ bytes_of b
  both_bytes = ap bytes_of h.joined ∙ encodes-append a b

  pub size_of_back : p + size b ≡ size t
  size_of_back = sym (ap size h.joined ∙ size-append a b ∙ ap (λ n. n + size b) h.before)

  pub front_bytes : bytes_of a ≡ take p (bytes_of t)
  front_bytes = sym (ap (take p) both_bytes ∙ take_at (bytes_of a) (bytes_of b) p h.before)

  pub back_bytes : bytes_of b ≡ drop p (bytes_of t)
  back_bytes = sym (ap (drop p) both_bytes ∙ drop_at (bytes_of a) (bytes_of b) p h.before)

-- bytes split at a place are a text split there
pub split_at_place : {bs front v : List ℕ} {p : ℕ} → IsUtf8 bs → IsPlace (chars bs) p
    → front ≡ take p bs → v ≡ chars (drop p bs) → IsCut (chars bs) p (chars front) v
split_at_place {bs} {p = p} u at e k =
    let h = holds_chars u in rw (e, k) (cut_at h p (boundary h at))

-- all of a text stands before a cut at its end
pub cut_at_end : {t a b : List ℕ} → IsCut t (size t) a b → a ≡ t
cut_at_end {a = a} {b} h =
    let none : b ≡ [] = nil_from_size b (omega (arith, size_of_back h)) in
    sym (h.joined ∙ ap (λ r. a ++ r) none ∙ append-nil a)
