-- Copies of a text, one after the other.
use Rattle.inlinable_string.proofs.Common.{◌≡◌, ℕ, zero, suc, ◌+◌, ◌*◌, ◌≤◌, ◌<◌, List, [], ◌++◌, length, refl, sym, ap, ◌∙◌, arith, subst, add-one, append-nil, append_assoc, chars, chars-nil, chars_from_encodes, encodes-append, encodes-chars, IsUtf8, bytes_of, size}
use Rattle.std.proofs.Math.Nat.{mul-le-mul_right}
use Rattle.std.specs.List.{repeat}
use Rattle.inlinable_string.proofs.Text.{size-append, size-chars}

pub repeat-nil : (n : ℕ) → repeat {A = ℕ} n [] ≡ []
repeat-nil zero = refl
repeat-nil (suc n) = repeat-nil n

repeat-suc : (n : ℕ) (xs : List ℕ) → repeat (suc n) xs ≡ repeat n xs ++ xs
repeat-suc zero xs = append-nil xs
repeat-suc (suc n) xs = ap (λ l. xs ++ l) (repeat-suc n xs) ∙ sym (append_assoc xs _ xs)

repeat-more : (n : ℕ) (xs : List ℕ) → repeat (n + 1) xs ≡ repeat n xs ++ xs
repeat-more n xs = ap (λ k. repeat k xs) (add-one n) ∙ repeat-suc n xs

-- v is n copies of the text whose bytes are bs
pub record Copies (n : ℕ) (bs v : List ℕ) : Type 0 where
  pub text : v ≡ repeat n (chars bs)
  pub bytes : bytes_of v ≡ repeat n bs
  pub len : size v ≡ n * length bs

-- one copy more
pub copied : {n : ℕ} {bs v w : List ℕ} → IsUtf8 bs → Copies n bs v → w ≡ v ++ chars bs
    → Copies (n + 1) bs w
copied {n} {bs} {v} {w} u c e = record {
  text = e ∙ ap (λ l. l ++ chars bs) c.text ∙ sym (repeat-more n (chars bs));
  bytes = ap bytes_of e ∙ encodes-append v (chars bs)
      ∙ rw (c.bytes, encodes-chars bs u) (sym (repeat-more n bs));
  len = ap size e ∙ size-append v (chars bs) ∙ rw (c.len, size-chars bs u) (omega arith);
}

-- no copies, and copies of nothing
pub none : (bs v : List ℕ) → v ≡ [] → Copies 0 bs v
none bs v e = rw e (record { text = refl; bytes = refl; len = omega arith })

pub of_nothing : (n : ℕ) (bs v : List ℕ) → bs ≡ [] → v ≡ [] → Copies n bs v
of_nothing n bs v nothing e = record {
  text = e ∙ sym (rw (nothing, chars-nil) (repeat-nil n));
  bytes = rw e (sym (rw nothing (repeat-nil n)));
  len = rw (e, nothing) (omega arith);
}

-- copies of bytes are copies of their text
copies : (n : ℕ) (bs : List ℕ) → IsUtf8 bs → (v : List ℕ) × Copies n bs v
copies zero bs u = ([], none bs [] refl)
copies (suc n) bs u =
    let fewer = copies n bs u in (
      fewer.0 ++ chars bs,
      subst (λ k. Copies k bs (fewer.0 ++ chars bs)) (add-one n)
          (copied u fewer.1 refl),
    )

pub copies_of : {bs made : List ℕ} (n : ℕ) → IsUtf8 bs → IsUtf8 made → made ≡ repeat n bs
    → Copies n bs (chars made)
copies_of {bs} {made} n u v e =
    let all = copies n bs u in
    let same : all.0 ≡ chars made = chars_from_encodes all.0 made v (all.1.bytes ∙ sym e) in
    subst (Copies n bs) same all.1

-- where one more has no room, all have none
pub above : (N n c k m : ℕ) → m ≡ c * k → c < n → N < m + k → N < n * k
above N n c k m e few full =
    let more : (c + 1) * k ≤ n * k = mul-le-mul_right k (omega (arith, few)) in
    omega (arith, e, full, more)
