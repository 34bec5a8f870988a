-- Equality and order, which go by the bytes.
use Rattle.inlinable_string.proofs.Common.{common_steps, arith, on_total, nat_list_cmp_total, ◌≡◌, ◌↔◌, ℕ, List, true, IsTrue, refl, sym, ap, ◌∙◌, nat_eq, all_scalars, pointwise, slice_cmp, texts_ties, bytes_decides, bytes_of}
use Rattle.std.specs.Ordering.{is_eq, nat_cmp}
use Rattle.std.specs.declared.cmp.Ordering.{Ordering}
use Rattle.std.specs.declared.cmp.Ordering.TheVariants.{Less, Equal, Greater}
use Rattle.inlinable_string.proofs.Text.{same_bytes}

-- texts whose bytes are equal have the same characters
pub same_characters : (t u : List ℕ) → all_scalars t ≡ true
    → IsTrue (pointwise nat_eq (bytes_of t) (bytes_of u)) ↔ (t ≡ u)
same_characters t u are = grind (arith, common_steps, bytes_decides, same_bytes)

equal_from_test : (r : Ordering) → is_eq r ≡ true → r ≡ Equal
equal_from_test Less h = cc
equal_from_test Equal h = refl
equal_from_test Greater h = cc

-- bytes tie exactly where they are the same
pub ties_are_equal : (xs ys : List ℕ) → (slice_cmp nat_cmp xs ys ≡ Equal) ↔ (xs ≡ ys)
ties_are_equal xs ys = (
  λ tie. (bytes_decides xs ys).0 (texts_ties xs ys ∙ ap is_eq tie),
  λ same. equal_from_test _ (sym (texts_ties xs ys) ∙ (bytes_decides xs ys).1 same),
)

pub ruleset ordered = (ties_are_equal, on_total, nat_list_cmp_total)
