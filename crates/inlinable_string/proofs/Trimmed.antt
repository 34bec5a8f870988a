-- A text without the bytes at one of its ends.
use Rattle.inlinable_string.proofs.Common.{◌≡◌, ◌-◌, List, ℕ, sym, ap, ◌∙◌, length, drop, chars, chars_from_encodes, IsUtf8, bytes_of}
use Rattle.inlinable_string.proofs.Cut.{rest_begins}

-- without the bytes before a rest of them
pub bytes-dropped : (t v : List ℕ) {s r : List ℕ} (n : ℕ) → s ≡ bytes_of t → r ≡ drop n s
    → bytes_of v ≡ drop (length s - length r) (bytes_of t) → bytes_of v ≡ r
bytes-dropped t v {s} {r} n e rest bytes =
    bytes ∙ ap (drop (length s - length r)) (sym e) ∙ sym (rest_begins n s r rest)

-- the text v has the bytes r, which f leaves of the bytes s of the text t
module _ (t v : List ℕ) {s r : List ℕ} (f : List ℕ → List ℕ) (e : s ≡ bytes_of t) (u : IsUtf8 r)
    (bytes : bytes_of v ≡ r) (is : r ≡ f s) where
  pub bytes-left : bytes_of v ≡ f (bytes_of t)
  bytes-left = bytes ∙ is ∙ ap f e

  pub text-left : v ≡ chars (f (bytes_of t))
  text-left = chars_from_encodes v r u bytes ∙ ap chars (is ∙ ap f e)
