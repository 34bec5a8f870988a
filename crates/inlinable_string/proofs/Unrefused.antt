-- Runs in which no allocation fails: their replies and their text are those of plain edits.
use Rattle.inlinable_string.proofs.Common.{common_steps, ◌≡◌, ◌≢◌, ◌↔◌, ℕ, zero, suc, ◌<◌, ◌^◌, inl, true, List, [], ◌∷◌, take, refl, ap, ◌∙◌, arith, subst, Contains, Some, slice_get, rules, TextState, IsLawful, edit, reply_of, text_left, text_after_step, text_after, Need, reserved, need_of, state_after_step, IsCounted, IsLegal, LegalReplies, replies_of, text_after_edits, ReservesWithin, LeavesWithin, StaysWithin, Inline, Command, Reply, Done, NoMemory}
use Rattle.inlinable_string.proofs.Edits.{never_refused, text_granted}
use Rattle.inlinable_string.proofs.ShortRuns.{short_step, short_run_never_asks}

-- where the replies refuse nothing, the first does not, nor does one of the rest
refused_first : (reply : Reply) (replies : List Reply) → reply ≡ NoMemory
    → Contains (reply ∷ replies) NoMemory
refused_first reply replies is = (0, omega arith, is)

refused_later : (reply : Reply) (replies : List Reply) → Contains replies NoMemory
    → Contains (reply ∷ replies) NoMemory
refused_later reply replies has = (suc has.0, omega (arith, has.1), has.2)

-- a legal reply that refuses nothing is that of `edit`
answered : (s : TextState) (command : Command) (reply : Reply) → IsLegal s command reply
    → reply ≢ NoMemory → reply ≡ reply_of (edit s.text command)
answered s command reply legal given = grind (arith, common_steps)

-- so are all of them
pub unrefused_replies : (s : TextState) (commands : List Command) (replies : List Reply)
    → LegalReplies s commands replies → ¬ Contains replies NoMemory
    → replies ≡ replies_of s.text commands
unrefused_replies s [] [] legal given = refl
unrefused_replies s (c ∷ commands) (r ∷ replies) legal given =
    let here : r ≢ NoMemory = λ is. given (refused_first r replies is) in
    let rest = unrefused_replies (state_after_step s c r) commands replies legal.1
    (λ has. given (refused_later r replies has)) in
    grind (arith, answered s c r legal.0 here, text_granted s.text c r here, rest)
unrefused_replies s commands replies legal given = absurd legal

-- and the text is that of the edits
pub unrefused_text : (s : TextState) (commands : List Command) (replies : List Reply)
    → LegalReplies s commands replies → ¬ Contains replies NoMemory
    → text_after s.text commands replies ≡ text_after_edits s.text commands
unrefused_text s [] [] legal given = refl
unrefused_text s (c ∷ commands) (r ∷ replies) legal given =
    let text : text_after_step s.text c r ≡ text_left s.text (edit s.text c) =
    text_granted s.text c r (λ is. given (refused_first r replies is)) in
    unrefused_text (state_after_step s c r) commands replies legal.1
    (λ has. given (refused_later r replies has)) ∙ ap (λ t. text_after_edits t commands) text
unrefused_text s commands replies legal given = absurd legal

-- a reservation within a limit that a `usize` counts is counted
counted_within : (s : TextState) (need : Need) (reply : Reply) → s.policy.limit < 2 ^ 64
    → ReservesWithin s.policy.limit s.text need → IsCounted s need reply
counted_within s (reserved n) Done small held = omega (arith, small, held)
counted_within s (reserved n) reply small held = tt
counted_within s need reply small held = tt

-- the replies of the edits of a short run are legal
short_replies_are_legal : (s : TextState) (commands : List Command) → s.policy.demotes ≡ true
    → s.storage ≡ Inline → s.policy.limit < 2 ^ 64
    → StaysWithin s.policy.limit s.text commands
    → LegalReplies s commands (replies_of s.text commands)
short_replies_are_legal s [] demotes inline small within = tt
short_replies_are_legal s (c ∷ commands) demotes inline small within =
    let r = reply_of (edit s.text c) in
    let legal : IsLegal s c r =
    record { answer = inl refl; counted = counted_within s (need_of c) r small within.0.0 } in
    let step = short_step s c r demotes inline within.0.0 within.0.1 legal in
    let text : text_after_step s.text c r ≡ text_left s.text (edit s.text c) =
    text_granted s.text c r (never_refused (edit s.text c)) in
    let next : StaysWithin s.policy.limit (text_after_step s.text c r) commands =
    rw text within.1 in
    let rest =
    short_replies_are_legal (state_after_step s c r) commands demotes step.1 small next in
    let same = ap (λ t. replies_of t commands) text in
    (legal, subst (LegalReplies (state_after_step s c r) commands) same rest)

-- the clauses on short runs
pub short_replies : (s : TextState) (commands : List Command) (replies : List Reply) → IsLawful s
    → s.storage ≡ Inline → StaysWithin s.policy.limit s.text commands
    → LegalReplies s commands replies ↔ (replies ≡ replies_of s.text commands)
short_replies s commands replies laws inline within =
    search (rules, unrefused_replies, short_run_never_asks, short_replies_are_legal)

pub short_text : (s : TextState) (commands : List Command) (replies : List Reply) → IsLawful s
    → s.storage ≡ Inline → StaysWithin s.policy.limit s.text commands
    → LegalReplies s commands replies
    → text_after s.text commands replies ≡ text_after_edits s.text commands
short_text s commands replies laws inline within legal =
    search (rules, unrefused_text, short_run_never_asks)

-- each command in its turn
pub stays_at : (n : ℕ) (t : List ℕ) (commands : List Command) (i : ℕ) (command : Command)
    → StaysWithin n t commands → slice_get commands i ≡ Some command
    → LeavesWithin n (text_after_edits t (take i commands)) command
stays_at n t [] i command within is = cc
stays_at n t (c ∷ commands) zero command within is = grind (arith, common_steps)
stays_at n t (c ∷ commands) (suc i) command within is =
    stays_at n (text_left t (edit t c)) commands i command within.1 is

pub stays_if : (n : ℕ) (t : List ℕ) (commands : List Command)
    → ((i : ℕ) (command : Command) → slice_get commands i ≡ Some command
    → LeavesWithin n (text_after_edits t (take i commands)) command)
    → StaysWithin n t commands
stays_if n t [] each = tt
stays_if n t (c ∷ commands) each = (
  each 0 c refl,
  stays_if n (text_left t (edit t c)) commands (λ i command is. each (suc i) command is),
)

pub ruleset unrefused = (unrefused_replies, unrefused_text, short_replies, short_text)
