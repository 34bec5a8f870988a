-- Texts in an array to which the items of an iterator are added one by one.
use Rattle.inlinable_string.proofs.Common.{common_steps, ◌≡◌, ℕ, ◌+◌, ◌≤◌, ◌<◌, List, [], ◌∷◌, ◌++◌, sym, ◌∙◌, arith, subst, Option, Some, None, Result, Ok, Err, IsOk, OnErr, size}
use Rattle.std.proofs.iter.runs.Made.{run_of_turn, run_of_exit}
use Rattle.std.specs.Iterator.{Yields}
use Rattle.std.specs.Iterator.Runs.{SomeRun, WholeRun, EachRunFrom}
use Rattle.inlinable_string.proofs.Extended.{refused}
use Rattle.inlinable_string.proofs.Text.{size-append}

-- the items before the last were added to the text, and with the last it would have above n bytes
abbrev pub IsFull : {A : Type 0} → (List A → List ℕ) → ℕ → List ℕ → List ℕ → List A → Type 0
IsFull {A} text_of n old new items =
    (taken : List A) × (refused : A) × (items ≡ taken ++ refused ∷ [])
    × (new ≡ old ++ text_of taken) × (n < size old + size (text_of items))

-- where all fits, nothing is refused
none_full : {A S : Type 0} (text_of : List A → List ℕ) (gives : S → Option A → S → Type 0)
    (it : S) (n : ℕ) (old new : List ℕ)
    → SomeRun gives it (λ run. IsFull text_of n old new run.items)
    → EachRunFrom gives it (λ run. size old + size (text_of run.items) ≤ n) → ⊥
none_full text_of gives it n old new run fits =
    let h = fits run.0 run.0.seen run.1 in omega (arith, h, run.2.4)

module _ {A S : Type 0} (text_of : List A → List ℕ) (gives : S → Option A → S → Type 0)
    {begin it here : S} (rest : S) (items : List A) (from : begin ≡ it)
    (led : Yields gives begin items here) (old mid : List ℕ) (sum : mid ≡ old ++ text_of items)
  where
    -- the end of the iterator
    pub all_added : gives here None rest
        → WholeRun gives it (λ run. mid ≡ old ++ text_of run.items)
    all_added step =
        let run = run_of_exit gives it items here (rw from at led) rest step in
        (run.0, run.1, run.2, subst (λ taken. mid ≡ old ++ text_of taken) (sym run.3.0) sum)

    -- the refusal of x, with the text v of k bytes, which came after these items
    pub last_refused : {T E : Type 0} (r : Result T E) (new v : List ℕ) (N k : ℕ) (x : A)
        → text_of (items ++ x ∷ []) ≡ text_of items ++ v → size v ≡ k → N < size mid + k
        → new ≡ mid → gives here (Some x) rest
        → OnErr r (SomeRun gives it (λ run. IsFull text_of N old new run.items))
        × (EachRunFrom gives it (λ run. size old + size (text_of run.items) ≤ N) → IsOk r)
    last_refused r new v N k x whole counted above same step =
        let run = run_of_turn gives it items here (rw from at led) x rest step in
        let more : N < size old + size (text_of (items ++ x ∷ [])) =
        grind (arith, common_steps, size-append) in
        let last : SomeRun gives it (λ run. IsFull text_of N old new run.items) =
        (run.0, run.1, (items, x, run.2.0, same ∙ sum, rw run.2.0 more)) in
        (refused r last, λ fits. absurd (none_full text_of gives it N old new last fits))

-- a refusal by a text that was new
pub full_when_new : {A S T E : Type 0} (text_of : List A → List ℕ)
    (gives : S → Option A → S → Type 0) (it : S) (n : ℕ) (new : List ℕ) (r : Result T E)
    → OnErr r (SomeRun gives it (λ run. IsFull text_of n [] new run.items))
    → OnErr r (SomeRun gives it (λ run. n < size (text_of run.items)))
full_when_new text_of gives it n new (Ok x) run = tt
full_when_new text_of gives it n new (Err x) run = (run.0, run.1, omega (arith, run.2.4))
