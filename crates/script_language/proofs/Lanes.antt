-- Bytes that are compared 16 at a time with one byte.
use Rattle.std.proofs.Common.{◌≡◌, ap, subst, ◌∙◌, ℕ, ◌+◌, ◌≤◌, ◌<◌, ◌==◌, ◌%◌, ◌^◌, List, take, drop, length, arith, w8}
use Rattle.std.proofs.lemmas.Simd.{bitmask_splat, length-chunk, trailing_mask_l}
use Rattle.std.specs.List.{prefix_len}
use mathlib.Core.Bool.{cond, not}
use mathlib.Core.List.{map}
use lib.Count.{count_trailing_zeros}
use lib.Lanes.{mask_l, top, zip2}
use lib.ListN.{replicate}

-- the number whose bits tell which of 16 bytes are the byte
abbrev pub mask_of : List ℕ → ℕ → ℕ
mask_of lanes byte =
    mask_l (map (top 7) (zip2 (λ a b. cond (a == b) 255 0) lanes (replicate 16 byte))) % 2 ^ 64

-- the mask of the bytes from a place on
pub mask_is : (bytes : List ℕ) (at byte : ℕ) → at + 16 ≤ length bytes
    → mask_of (take 16 (drop at bytes)) byte
    ≡ mask_l (map (λ b. b == byte) (take 16 (drop at bytes)))
mask_is bytes at byte room =
    bitmask_splat w8 (λ a b. a == b) (take 16 (drop at bytes)) 16 byte
    (length-chunk at 16 bytes room) (omega arith)

-- where one is, the lowest says how many come before the first that is the byte
pub counted : (bytes : List ℕ) (at byte : ℕ) → at + 16 ≤ length bytes
    → 0 < mask_of (take 16 (drop at bytes)) byte
    → count_trailing_zeros 64 (mask_of (take 16 (drop at bytes)) byte)
    ≡ prefix_len (λ b. not (b == byte)) (take 16 (drop at bytes))
counted bytes at byte room some =
    let is = mask_is bytes at byte room in
    ap (count_trailing_zeros 64) is
    ∙ trailing_mask_l (λ b. b == byte) 64 (take 16 (drop at bytes))
    (omega (arith, length-chunk at 16 bytes room)) (subst (λ n. 0 < n) is some)
