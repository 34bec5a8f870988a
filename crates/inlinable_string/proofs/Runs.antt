-- A run grows by one command at its end.
use Rattle.inlinable_string.proofs.Common.{common_steps, ◌≡◌, ℕ, ◌+◌, ◌<◌, ◌≤◌, List, [], ◌∷◌, ◌++◌, length, take, refl, arith, get_or, set, rules, take_more, take_more_set, take_all, size, TextState, IsLawful, text_after, state_after, state_after_step, LegalReplies, IsRun, Covers, IsStep, Command, Reply}
use Rattle.inlinable_string.proofs.RunsJoined.{state_joined, legal_joined}

-- the commands so far
pub record IsRunSoFar (old : TextState) (commands : List Command) (replies : List Reply)
    (new : TextState) : Type 0 where
  pub legal : LegalReplies old commands replies
  pub next : Covers (state_after old commands replies) new

-- the state follows the text and keeps the policy
pub text_of : (s : TextState) (cs : List Command) (rs : List Reply)
    → (state_after s cs rs).text ≡ text_after s.text cs rs
text_of s (x ∷ cs) (y ∷ rs) = text_of (state_after_step s x y) cs rs
text_of s cs rs = refl

pub policy_of : (s : TextState) (cs : List Command) (rs : List Reply)
    → (state_after s cs rs).policy ≡ s.policy
policy_of s (x ∷ cs) (y ∷ rs) = policy_of (state_after_step s x y) cs rs
policy_of s cs rs = refl

fits_in : (s : TextState) (cs : List Command) (rs : List Reply) → size s.text ≤ s.capacity
    → size (state_after s cs rs).text ≤ (state_after s cs rs).capacity
fits_in s (x ∷ cs) (y ∷ rs) h = fits_in (state_after_step s x y) cs rs (omega arith)
fits_in s cs rs h = h

-- a value is in the state that it covers, except for its capacity
covered : (s value : TextState) → Covers s value → record value { capacity = s.capacity } ≡ s
covered s value h = rw (h.text, h.storage, h.policy) refl

-- the step of a loop over the commands
pub so_far_more : (old mid new : TextState) (cs : List Command) (rs : List Reply) (i : ℕ)
    (d : Command) (r : Reply)
    → length rs ≡ length cs → i < length cs → IsLawful old
    → IsRunSoFar old (take i cs) (take i rs) mid → IsStep mid (get_or cs i d) r new
    → IsRunSoFar old (take (i + 1) cs) (take (i + 1) (set rs i r)) new
so_far_more old mid new cs rs i d r long lt laws ran step =
    let c = get_or cs i d in
    let s : TextState = state_after old (take i cs) (take i rs) in
    let front : take (i + 1) cs ≡ take i cs ++ c ∷ [] = take_more cs i d lt in
    let back : take (i + 1) (set rs i r) ≡ take i rs ++ r ∷ [] =
    take_more_set rs i r (omega (arith, long, lt)) in
    let within : size mid.text ≤ s.capacity =
    rw (ran.next.text) (fits_in old (take i cs) (take i rs) laws.within) in
    let is : record mid { capacity = s.capacity } ≡ s = covered s mid ran.next in
    let legal = step.legal s.capacity within ran.next.room in
    let next = step.next s.capacity within ran.next.room in
    grind (arith, common_steps, legal_joined, state_joined)

-- the end of a run
pub run_whole : (old new : TextState) (cs : List Command) (rs : List Reply) (i : ℕ)
    → length rs ≡ length cs → length cs ≤ i → IsLawful old
    → IsRunSoFar old (take i cs) (take i rs) new → IsRun old cs rs new
run_whole old new cs rs i long past laws ran = search (rules, take_all, text_of, fits_in, policy_of)
