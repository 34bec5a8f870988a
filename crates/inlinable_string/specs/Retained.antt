-- What `retain` leaves of a text.
use Rattle.std.specs.Prelude.{◌≡◌, ℕ, List, Bool}
use Rattle.std.specs.Fn.{Mut, Called}
use Rattle.std.specs.List.Retain.{IsFiltered}

-- the closure f was called at each character of t once, in order, and v has those at which it
-- answered `true`
abbrev pub IsRetained : {F : Type 0} → Mut F (ℕ × Unit {0}) Bool → F → List ℕ → List ℕ → Type 0
IsRetained g f t v =
    IsFiltered (λ before c answer after. Called g before (c, tt) answer after) f t v

-- the closure f answers as the test does, and no call changes it
abbrev pub Tests : {F : Type 0} → Mut F (ℕ × Unit {0}) Bool → F → (ℕ → Bool) → Type 0
Tests {F} g f test = (c : ℕ) (answer : Bool) (after : F) → Called g f (c, tt) answer after
    → (answer ≡ test c) × (after ≡ f)
