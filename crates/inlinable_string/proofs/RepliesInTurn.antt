-- A run, read one reply at a time, and many runs, read one text at a time.
use Rattle.inlinable_string.proofs.Common.{common_steps, ◌≡◌, ℕ, zero, suc, ◌+◌, ◌*◌, ◌<◌, List, [], ◌∷◌, length, take, drop, refl, ap, arith, Some, slice_get, rules, TextState, IsLegal, LegalReplies, IsRun, EachRun, state_after, state_after_step, Command, Reply}

-- legal replies have the length of the commands
pub as_many_replies : (s : TextState) (commands : List Command) (replies : List Reply)
    → LegalReplies s commands replies → length replies ≡ length commands
as_many_replies s [] [] h = refl
as_many_replies s (c ∷ commands) (r ∷ replies) h =
    omega (arith, as_many_replies (state_after_step s c r) commands replies h.1)
as_many_replies s commands replies h = absurd h

-- each reply is legal in the state before it
pub legal_at : (s : TextState) (commands : List Command) (replies : List Reply) (i : ℕ)
    (command : Command) (reply : Reply) → LegalReplies s commands replies
    → slice_get commands i ≡ Some command → slice_get replies i ≡ Some reply
    → IsLegal (state_after s (take i commands) (take i replies)) command reply
legal_at s [] replies i command reply h a b = cc
legal_at s (x ∷ commands) [] i command reply h a b = absurd h
legal_at s (x ∷ commands) (y ∷ replies) zero command reply h a b = grind (arith, common_steps)
legal_at s (x ∷ commands) (y ∷ replies) (suc i) command reply h a b =
    legal_at (state_after_step s x y) commands replies i command reply h.1 a b

-- the text at i has the replies from its own on
pub run_at : (olds news : List TextState) (commands : List Command) (replies : List Reply) (i : ℕ)
    (old new : TextState) → EachRun olds commands replies news
    → slice_get olds i ≡ Some old → slice_get news i ≡ Some new
    → IsRun old commands (take (length commands) (drop (i * length commands) replies)) new
run_at [] news commands replies i old new h a b = cc
run_at (x ∷ olds) [] commands replies i old new h a b = absurd h
run_at (x ∷ olds) (y ∷ news) commands replies zero old new h a b = grind (arith, common_steps)
run_at (x ∷ olds) (y ∷ news) commands replies (suc i) old new h a b =
    let later = run_at olds news commands (drop (length commands) replies) i old new h.1 a b in
    grind (arith, common_steps, later)

-- what is read of a front, and of a rest
taken_at : (replies : List Reply) (n j : ℕ) → j < n
    → slice_get (take n replies) j ≡ slice_get replies j
taken_at replies zero j h = absurd (omega (arith, h))
taken_at [] (suc n) j h = refl
taken_at (r ∷ replies) (suc n) zero h = refl
taken_at (r ∷ replies) (suc n) (suc j) h = taken_at replies n j (omega (arith, h))

dropped_at : (replies : List Reply) (m j : ℕ)
    → slice_get (drop m replies) j ≡ slice_get replies (m + j)
dropped_at replies zero j = let none : j ≡ 0 + j = omega arith in ap (slice_get replies) none
dropped_at [] (suc m) j = refl
dropped_at (r ∷ replies) (suc m) j = grind (arith, common_steps, dropped_at replies m j)

-- a text's own replies, among all
pub own_reply_at : (commands : List Command) (replies : List Reply) (i j : ℕ) → j < length commands
    → slice_get (take (length commands) (drop (i * length commands) replies)) j
    ≡ slice_get replies (i * length commands + j)
own_reply_at commands replies i j h = search (rules, taken_at, dropped_at)

-- no text is lost
pub as_many_texts : (olds news : List TextState) (commands : List Command) (replies : List Reply)
    → EachRun olds commands replies news → length news ≡ length olds
as_many_texts [] [] commands replies h = refl
as_many_texts (x ∷ olds) (y ∷ news) commands replies h =
    omega (arith, as_many_texts olds news commands (drop (length commands) replies) h.1)
as_many_texts olds news commands replies h = absurd h
