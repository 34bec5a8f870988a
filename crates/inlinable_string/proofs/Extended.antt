-- Texts to which the items of an iterator are added one by one.
use Rattle.inlinable_string.proofs.Common.{common_steps, ◌≡◌, ℕ, ◌+◌, ◌≤◌, ◌<◌, true, false, List, [], ◌∷◌, ◌++◌, sym, ap, ◌∙◌, arith, subst, append_assoc, Option, Some, None, Result, Ok, Err, IsOk, IfOk, OnErr, OnOk, MatchResult, rules, flat_map_more, map-append, chars, Inline, size, TextState, IsSameText, HasRoom, storage_with_room, storage_when_made, inlinable_policy, inlinable_state, text_of_strs, text_of_char_refs, IsExtended, IsRefusedLast}
use Rattle.std.proofs.lemmas.Bool.{false≢true}
use Rattle.std.proofs.iter.runs.Made.{took, run_of_turn, run_of_exit}
use Rattle.std.specs.Borrow.{Bor}
use Rattle.std.specs.Result.{IsErr}
use Rattle.inlinable_string.specs.declared.string_ext.Storage.{Storage}
use Rattle.std.specs.Iterator.{Yields, Drains, DrainsIf}
use Rattle.std.specs.Iterator.Runs.{SomeRun, WholeRun, EachRunFrom}
use Rattle.inlinable_string.specs.declared.inlinable_string.InlinableStringN.{InlinableStringN}
use Rattle.inlinable_string.specs.declared.inlinable_string.InlinableStringN.TheVariants as variant
use Rattle.inlinable_string.proofs.Text.{size-append}

storage_of_two : (old mid : TextState) (n k : ℕ) → mid.policy ≡ old.policy
    → size mid.text ≡ size old.text + n → mid.storage ≡ storage_with_room old n
    → storage_with_room mid k ≡ storage_with_room old (n + k)
storage_of_two old mid n k p e s = grind (arith, common_steps)

-- a string more
pub text_of_strs-more : (items : List (Bor (List ℕ))) (s : Bor (List ℕ))
    → text_of_strs (items ++ s ∷ []) ≡ text_of_strs items ++ chars s.now
text_of_strs-more items s = sym (flat_map_more (λ (x : Bor (List ℕ)). chars x.now) [] items s)

-- a character more
pub text_of_char_refs-more : (items : List (Bor ℕ)) (c : Bor ℕ)
    → text_of_char_refs (items ++ c ∷ []) ≡ text_of_char_refs items ++ c.now ∷ []
text_of_char_refs-more items c = map-append (λ (x : Bor ℕ). x.now) items (c ∷ [])

-- what a loop that adds to a text keeps
pub record Grown (old : TextState) (u : List ℕ) (new : TextState) : Type 0 where
  pub extended : IsExtended old u new
  pub room : old.capacity ≤ new.capacity
  pub policy : new.policy ≡ old.policy

size_extended : (old new : TextState) (u : List ℕ) → IsExtended old u new
    → size new.text ≡ size old.text + size u
size_extended old new u e = ap size e.text ∙ size-append old.text u

-- a text v more, of k bytes; all that was added is w then
pub grown_more : (old mid new : TextState) (u v w : List ℕ) (k : ℕ) → Grown old u mid
    → w ≡ u ++ v → k ≡ size v → new.text ≡ mid.text ++ v
    → new.storage ≡ storage_with_room mid k → mid.capacity ≤ new.capacity
    → new.policy ≡ mid.policy → Grown old w new
grown_more old mid new u v w k g whole counted text storage room policy =
    grind (arith, common_steps, append_assoc, size-append, size_extended, storage_of_two)

-- a refusal leaves what had been added
pub left_extended : (old mid new : TextState) (u : List ℕ) → Grown old u mid → IsSameText mid new
    → IsExtended old u new
left_extended old mid new u g same = grind (arith, common_steps)

-- what was refused had no room
above_room : (old mid : TextState) (u v w : List ℕ) (k : ℕ) → Grown old u mid → w ≡ u ++ v
    → k ≡ size v → (HasRoom mid k → false ≡ true) → old.capacity < size old.text + size w
above_room old mid u v w k g whole counted none =
    search (rules, false≢true, size_extended, size-append)

-- where all fits, nothing is refused
all_fit : {A S : Type 0} (text_of : List A → List ℕ) (gives : S → Option A → S → Type 0)
    (it : S) (old new : TextState)
    → SomeRun gives it (λ run. IsRefusedLast text_of old run.items new)
    → EachRunFrom gives it (λ run. HasRoom old (size (text_of run.items))) → ⊥
all_fit text_of gives it old new run fits = grind (arith, common_steps)

-- what a call says of its refusal
pub refused : {T E P : Type 0} (r : Result T E) → P → OnErr r P
refused (Ok x) p = tt
refused (Err x) p = p

-- and what one that is refused says of the other end
pub not_ok : {T E : Type 0} (P : Type 0) (r : Result T E) → IsErr r → OnOk r P
not_ok P (Ok x) is = absurd (false≢true is)
not_ok P (Err x) is = tt

module _ {A S : Type 0} (text_of : List A → List ℕ) (gives : S → Option A → S → Type 0)
    {begin it here : S} (rest : S) (items : List A) (from : begin ≡ it)
    (led : Yields gives begin items here) (old : TextState) where
  -- the end of the iterator
  pub finished : (new : TextState) → Grown old (text_of items) new → gives here None rest
      → WholeRun gives it (λ run. IsExtended old (text_of run.items) new)
  finished new g step =
      let run = run_of_exit gives it items here (rw from at led) rest step in
      (run.0, run.1, run.2, rw run.3.0 g.extended)

  -- the refusal of x, which came after these items
  pub stopped : {T E : Type 0} (r : Result T E) → IsErr r → (mid new : TextState) (x : A)
      (v : List ℕ) (k : ℕ) → Grown old (text_of items) mid
      → text_of (items ++ x ∷ []) ≡ text_of items ++ v → k ≡ size v
      → (HasRoom mid k → false ≡ true) → IsSameText mid new → gives here (Some x) rest
      → OnErr r (SomeRun gives it (λ run. IsRefusedLast text_of old run.items new))
      × (EachRunFrom gives it (λ run. HasRoom old (size (text_of run.items))) → IsOk r)
      × IsErr r
  stopped r is mid new x v k g whole counted none same step =
      let run = run_of_turn gives it items here (rw from at led) x rest step in
      let more : old.capacity < size old.text + size (text_of (items ++ x ∷ [])) =
      above_room old mid (text_of items) v _ k g whole counted none in
      let last : SomeRun gives it (λ run. IsRefusedLast text_of old run.items new) = (
        run.0,
        run.1,
        record {
          taken = items;
          refused = x;
          whole = run.2.0;
          extended = left_extended old mid new (text_of items) g same;
          above = rw run.2.0 more;
        },
      ) in
      (refused r last, λ fits. absurd (all_fit text_of gives it old new last fits), is)

-- the empty text, as it is made
abbrev pub empty_state : ℕ → TextState
empty_state N = record { text = []; storage = Inline; capacity = N; policy = inlinable_policy N }

new_is_empty : (N : ℕ) (made : InlinableStringN N) → (inlinable_state N made).text ≡ []
    → (inlinable_state N made).storage ≡ storage_when_made (inlinable_policy N) 0
    → inlinable_state N made ≡ empty_state N
new_is_empty N (variant.Inline t a) text storage = grind (arith, common_steps)
new_is_empty N (variant.Heap s a) text storage = grind (arith, common_steps)

-- the same of a text that was new
module _ {A S : Type 0} (text_of : List A → List ℕ) (N : ℕ)
    (gives : S → Option A → S → Type 0) (it : S) (made : InlinableStringN N)
    (text : (inlinable_state N made).text ≡ [])
    (storage : (inlinable_state N made).storage ≡ storage_when_made (inlinable_policy N) 0) where
  from_new : (u : List ℕ) (new : TextState) → IsExtended (inlinable_state N made) u new
      → IsExtended (empty_state N) u new
  from_new u new e = subst (λ old. IsExtended old u new) (new_is_empty N made text storage) e

  pub joined_text : (new : TextState)
      → WholeRun gives it (λ run. IsExtended (inlinable_state N made) (text_of run.items) new)
      → WholeRun gives it (λ run. new.text ≡ text_of run.items)
  joined_text new run = (run.0, run.1, run.2, (from_new _ new run.3).text)

  pub refused_above : (new : TextState)
      → SomeRun gives it (λ run. IsRefusedLast text_of (inlinable_state N made) run.items new)
      → SomeRun gives it (λ run. N < size (text_of run.items))
  refused_above new run =
      let above : N < size [] + size (text_of run.0.items) =
      subst (λ old. old.capacity < size old.text + size (text_of run.0.items))
      (new_is_empty N made text storage) run.2.above in
      (run.0, run.1, omega (arith, above))

-- a refusal by the empty text as it is made
pub above_when_empty : {A S T E : Type 0} (text_of : List A → List ℕ)
    (gives : S → Option A → S → Type 0) (it : S) (N : ℕ) (new : TextState) (r : Result T E)
    → OnErr r (SomeRun gives it (λ run. IsRefusedLast text_of (empty_state N) run.items new))
    → OnErr r (SomeRun gives it (λ run. N < size (text_of run.items)))
above_when_empty text_of gives it N new (Ok x) run = tt
above_when_empty text_of gives it N new (Err x) run =
    (run.0, run.1, omega (arith, run.2.above))

-- calls that gave all these items gave the first of them
first_given : {A S : Type 0} (gives : S → Option A → S → Type 0) (it here : S) (xs ys : List A)
    → Yields gives it (xs ++ ys) here → (there : S) × Yields gives it xs there
first_given gives it here [] ys led = (it, λ i. it)
first_given gives it here (x ∷ xs) ys led =
    let rest = first_given gives led.0 here xs ys led.2 in (rest.0, (led.0, led.1, rest.1))

-- what std's `extend` says, of a call that appends the items of the iterator
pub extends_with_items : {A S E : Type 0} (text_of : List A → List ℕ) (becomes : S → Type 0)
    (gives : S → Option A → S → Type 0) (it : S) (old new : TextState) (r : Result (Unit {0}) E)
    → becomes it → OnOk r (WholeRun gives it (λ run. IsExtended old (text_of run.items) new))
    → OnErr r (SomeRun gives it (λ run. IsRefusedLast text_of old run.items new))
    → (from : S) × (items : List A) × becomes from × IsExtended old (text_of items) new
    × MatchResult r (λ _. Drains gives from items) (λ _. (t : S) × Yields gives from items t)
extends_with_items text_of becomes gives it old new (Ok x) is run none =
    let led = took run.0 in
    let end = led.2 run.2 in
    (run.0.from, run.0.items, rw run.1 is, run.3, (end.0, (led.0, led.1, end.1)))
extends_with_items text_of becomes gives it old new (Err x) is none run =
    let led = took run.0 in
    let given = first_given gives run.0.from led.0 run.2.taken (run.2.refused ∷ [])
    (subst (λ items. Yields gives run.0.from items led.0) run.2.whole led.1) in
    (run.0.from, run.2.taken, rw run.1 is, run.2.extended, given)

-- and what its `collect` says, of a call that makes a text of them
pub collects_items : {A S T E : Type 0} (text_of : List A → List ℕ) (W : T → Type 0)
    (becomes : S → Type 0) (gives : S → Option A → S → Type 0) (it : S)
    (state : T → TextState) (storage_of : ℕ → Storage) (r : Result T E) → becomes it
    → IfOk r (λ v. WholeRun gives it (λ run. (state v).text ≡ text_of run.items))
    → IfOk r (λ v. (state v).storage ≡ storage_of (size (state v).text))
    → IfOk r (λ v. (from : S) × (items : List A) × becomes from
    × DrainsIf gives (W v) from items × (((state v).text ≡ text_of items)
    × ((state v).storage ≡ storage_of (size (text_of items)))))
collects_items text_of W becomes gives it state storage_of (Ok v) is run storage =
    let led = took run.0 in (
      run.0.from,
      run.0.items,
      rw run.1 is,
      (led.0, led.1, λ _. led.2 run.2),
      (run.3, rw run.3 at storage),
    )
collects_items text_of W becomes gives it state storage_of (Err x) is run storage = tt
