-- A text with one of its ranges replaced, or taken out.
use Rattle.std.specs.Prelude.{◌≡◌, ℕ, List, ◌++◌}
use Rattle.inlinable_string.specs.Text.{IsCut}

-- v is the text t with u instead of what t has between the places p and q
pub record IsRangeReplaced (t : List ℕ) (p q : ℕ) (u v : List ℕ) : Type 0 where
  pub front : List ℕ
  pub middle : List ℕ
  pub back : List ℕ
  pub before : IsCut t p front (middle ++ back)
  pub after : IsCut t q (front ++ middle) back
  pub joined : v ≡ front ++ u ++ back

-- u is what the text t has between the places p and q, and v is t without it
pub record IsDrained (t : List ℕ) (p q : ℕ) (u v : List ℕ) : Type 0 where
  pub front : List ℕ
  pub back : List ℕ
  pub before : IsCut t p front (u ++ back)
  pub after : IsCut t q (front ++ u) back
  pub joined : v ≡ front ++ back
