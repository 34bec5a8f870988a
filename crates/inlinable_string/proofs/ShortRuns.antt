-- Runs that stay within the inline room: no memory can be refused to them.
use Rattle.inlinable_string.proofs.Common.{common_steps, ◌≡◌, ◌≢◌, ℕ, ◌+◌, ◌≤◌, inl, inr, ◌⊎◌, true, List, [], ◌∷◌, refl, sym, ap, ◌∙◌, arith, Contains, rules, size, TextState, IsLawful, edit, reply_of, text_left, text_after_step, Need, at_end, anywhere, reserved, tight, no_room, need_of, storage_when_met, storage_after_step, state_after_step, storage_after, IsMet, IsLegal, LegalReplies, ReservesWithin, StaysWithin, Inline, Command, Push, PushStr, Insert, InsertStr, ShrinkToFit, Reply, Done, NoMemory}
use Rattle.inlinable_string.proofs.Edits.{push_grows, push_str_grows, insert_grows, insert_str_grows, text_granted}
use Rattle.inlinable_string.proofs.RefusalsDecide.{storage_kept}
use Rattle.inlinable_string.proofs.FreeCommands.{granted, not_refused, absent, absent_nil}

-- what the text v has of a need of the text t that was met
abbrev Grows : List ℕ → Need → List ℕ → Type 0
Grows t (at_end n) v = size v ≡ size t + n
Grows t (anywhere n) v = size v ≡ size t + n
Grows t (reserved n) v = Unit {0}
Grows t tight v = v ≡ t
Grows t no_room v = Unit {0}

-- a command that is carried out adds what it needs
grows : (t : List ℕ) (command : Command) → reply_of (edit t command) ≡ Done
    → Grows t (need_of command) (text_left t (edit t command))
grows t (Push c) done = push_grows t c
grows t (PushStr u) done = push_str_grows t u
grows t (Insert p c) done = insert_grows t p c done
grows t (InsertStr p u) done = insert_str_grows t p u done
grows t ShrinkToFit done = refl
grows t command done = tt

-- a need within the limit is met inline
met_inline : (s : TextState) (need : Need) (v : List ℕ) → Grows s.text need v
    → s.policy.demotes ≡ true → s.storage ≡ Inline
    → ReservesWithin s.policy.limit s.text need → size v ≤ s.policy.limit
    → IsMet s need × (storage_when_met s need ≡ Inline)
met_inline s (at_end n) v grown demotes inline held short = grind (arith, common_steps)
met_inline s (anywhere n) v grown demotes inline held short = grind (arith, common_steps)
met_inline s (reserved n) v grown demotes inline held short = grind (arith, common_steps)
met_inline s tight v grown demotes inline held short = grind (arith, common_steps)
met_inline s no_room v grown demotes inline held short = (tt, inline)

-- carried out or not
done_or_not : (r : Reply) → (r ≡ Done) ⊎ (r ≢ Done)
done_or_not Done = inl refl
done_or_not r = inr (λ h. cc)

-- a command that stays within the limit is free, and leaves the text inline
pub short_step : (s : TextState) (command : Command) (reply : Reply) → s.policy.demotes ≡ true
    → s.storage ≡ Inline
    → ReservesWithin s.policy.limit s.text (need_of command)
    → size (text_left s.text (edit s.text command)) ≤ s.policy.limit → IsLegal s command reply
    → (reply ≡ reply_of (edit s.text command)) × (storage_after_step s command reply ≡ Inline)
short_step s command reply demotes inline held short legal =
    elim (done_or_not (reply_of (edit s.text command))) [
      | inl done ↦
          let met =
          met_inline s (need_of command) (text_left s.text (edit s.text command))
          (grows s.text command done) demotes inline held short in
          let same : reply ≡ reply_of (edit s.text command) =
          granted s command reply legal (inr met.0) in
          (same, ap (storage_after_step s command) (same ∙ done) ∙ met.1)
      | inr other ↦
          let same : reply ≡ reply_of (edit s.text command) =
          granted s command reply legal (inl (λ asks. other asks.1)) in
          (same, storage_kept s command reply (λ h. other (sym same ∙ h)) ∙ inline)
    ]

-- so a run of such commands asks for nothing, and leaves it inline
short_run : (s : TextState) (commands : List Command) (replies : List Reply)
    → s.policy.demotes ≡ true → s.storage ≡ Inline
    → StaysWithin s.policy.limit s.text commands → LegalReplies s commands replies
    → (¬ Contains replies NoMemory) × (storage_after s commands replies ≡ Inline)
short_run s [] [] demotes inline within legal = (absent_nil, inline)
short_run s (c ∷ commands) (r ∷ replies) demotes inline within legal =
    let step = short_step s c r demotes inline within.0.0 within.0.1 legal.0 in
    let here : r ≢ NoMemory = not_refused s.text c r step.0 in
    let text = text_granted s.text c r here in
    let next : StaysWithin s.policy.limit (text_after_step s.text c r) commands =
    rw text within.1 in
    let rest = short_run (state_after_step s c r) commands replies demotes step.1 next legal.1 in
    (absent r replies here rest.0, rest.1)
short_run s commands replies demotes inline within legal = absurd legal

-- the clauses on short runs
pub short_run_never_asks : (s : TextState) (commands : List Command) (replies : List Reply)
    → IsLawful s → s.storage ≡ Inline
    → StaysWithin s.policy.limit s.text commands → LegalReplies s commands replies
    → ¬ Contains replies NoMemory
short_run_never_asks s commands replies laws inline within legal = search (rules, short_run)

pub short_run_stays_inline : (s : TextState) (commands : List Command) (replies : List Reply)
    → IsLawful s → s.storage ≡ Inline
    → StaysWithin s.policy.limit s.text commands → LegalReplies s commands replies
    → storage_after s commands replies ≡ Inline
short_run_stays_inline s commands replies laws inline within legal = search (rules, short_run)

pub ruleset short_runs = (short_run_never_asks, short_run_stays_inline)
