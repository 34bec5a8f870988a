-- Pushes within room that was reserved: no memory can be refused to them.
use Rattle.inlinable_string.proofs.Common.{common_steps, ◌≡◌, ℕ, ◌+◌, ◌-◌, ◌≤◌, inr, List, [], ◌∷◌, length, refl, sym, ap, ◌∙◌, arith, subst, Contains, ◌++◌, rules, size, TextState, edit, reply_of, at_end, need_of, credit, credit_when_met, credit_after_step, state_after_step, IsMet, LegalReplies, state_after, PushesWithin, Command, Push, PushStr, Reply, Done, NoMemory}
use Rattle.inlinable_string.proofs.RunsJoined.{legal_parted}
use Rattle.inlinable_string.proofs.FreeCommands.{granted, not_refused, absent, absent_nil}

-- a push is carried out
push_done : (t : List ℕ) (command : Command) (n : ℕ) → need_of command ≡ at_end n
    → reply_of (edit t command) ≡ Done
push_done t (Push c) n h = refl
push_done t (PushStr u) n h = refl
push_done t command n h = cc

-- pushes within the credit cannot fail, and leave the rest of it
pushes_within_credit : (s : TextState) (k : ℕ) (commands : List Command) (replies : List Reply)
    → PushesWithin k commands → k ≤ credit s
    → LegalReplies s commands replies → ¬ Contains replies NoMemory
pushes_within_credit s k [] [] within enough legal = absent_nil
pushes_within_credit s k (c ∷ commands) (r ∷ replies) within enough legal =
    let n = within.0 in
    let met : IsMet s (need_of c) =
    subst (IsMet s) (sym within.1) (inr (omega (arith, within.2, enough))) in
    let same : r ≡ reply_of (edit s.text c) = granted s c r legal.0 (inr met) in
    let left : credit_after_step (credit s) c r ≡ credit s - n =
    ap (credit_after_step (credit s) c) (same ∙ push_done s.text c n within.1)
    ∙ ap (credit_when_met (credit s)) within.1 in
    absent r replies (not_refused s.text c r same)
    (pushes_within_credit (state_after_step s c r) (k - n) commands replies within.3
    (omega (arith, left, enough)) legal.1)
pushes_within_credit s k commands replies within enough legal = absurd legal

-- the clauses on reserved pushes
pub pushes_from_start : (s : TextState) (k : ℕ) (commands : List Command) (replies : List Reply)
    → PushesWithin k commands → size s.text + k ≤ s.capacity
    → LegalReplies s commands replies → ¬ Contains replies NoMemory
pushes_from_start s k commands replies within room legal = search (rules, pushes_within_credit)

-- after a command that leaves that credit
module _ (k : ℕ) (reserve : Command)
    (leaves : (s : TextState) → k ≤ credit (state_after_step s reserve Done)) where
  pub pushes_behind : (s : TextState) (commands : List Command) (replies : List Reply)
      → PushesWithin k commands
      → LegalReplies s (reserve ∷ commands) (Done ∷ replies) → ¬ Contains replies NoMemory
  pushes_behind s commands replies within legal = grind (arith, common_steps, pushes_within_credit)

  pub pushes_between : (s : TextState) (before added behind : List Command)
      (first replies last : List Reply) → PushesWithin k added
      → length before ≡ length first → length added ≡ length replies
      → LegalReplies s (before ++ (reserve ∷ (added ++ behind)))
      (first ++ (Done ∷ (replies ++ last))) → ¬ Contains replies NoMemory
  pushes_between s before added behind first replies last within a b legal =
      let at = state_after s before first in
      let later = (legal_parted s before _ first _ a legal).1 in
      let now =
      legal_parted (state_after_step at reserve Done) added behind replies last b later.1 in
      pushes_behind at added replies within (later.0, now.0)

pub ruleset pushes = (pushes_from_start, pushes_between)
