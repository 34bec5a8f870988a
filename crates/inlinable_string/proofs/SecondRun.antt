-- One run after another of one value. The value may have more credit than is certain.
use Rattle.inlinable_string.proofs.Common.{common_steps, ◌≡◌, ◌≤◌, List, [], ◌∷◌, ◌++◌, arith, TextState, credit, credit_after, state_after, state_after_step, IsLegal, LegalReplies, IsRun, Command, Reply}
use Rattle.inlinable_string.proofs.Runs.{text_of, policy_of}
use Rattle.inlinable_string.proofs.RepliesInTurn.{as_many_replies}
use Rattle.inlinable_string.proofs.RunsJoined.{joined}
use Rattle.inlinable_string.proofs.RefusalsDecide.{same_storage}

-- the same text in the same place, with at least the credit
record IsRicher (s v : TextState) : Type 0 where
  text : s.text ≡ v.text
  storage : s.storage ≡ v.storage
  policy : s.policy ≡ v.policy
  credit : credit s ≤ credit v

-- a step keeps that
richer_step : (s v : TextState) (command : Command) (reply : Reply) → IsRicher s v
    → IsRicher (state_after_step s command reply) (state_after_step v command reply)
richer_step s v command reply h = grind (arith, common_steps)

credit_richer : (s v : TextState) (commands : List Command) (replies : List Reply) → IsRicher s v
    → credit_after s commands replies ≤ credit_after v commands replies
credit_richer s v (c ∷ commands) (r ∷ replies) h =
    credit_richer (state_after_step s c r) (state_after_step v c r) commands replies
    (richer_step s v c r h)
credit_richer s v commands replies h = h.credit

-- what is legal with more credit is legal with less
legal_poorer : (s v : TextState) (command : Command) (reply : Reply) → IsRicher s v
    → IsLegal v command reply → IsLegal s command reply
legal_poorer s v command reply h legal = grind (arith, common_steps)

all_legal_poorer : (s v : TextState) (commands : List Command) (replies : List Reply) → IsRicher s v
    → LegalReplies v commands replies → LegalReplies s commands replies
all_legal_poorer s v [] [] h legal = tt
all_legal_poorer s v (c ∷ commands) (r ∷ replies) h legal = (
  legal_poorer s v c r h legal.0,
  all_legal_poorer (state_after_step s c r) (state_after_step v c r) commands replies
      (richer_step s v c r h) legal.1,
)
all_legal_poorer s v commands replies h legal = absurd legal

-- what a run leaves is what its replies determine, with at least that credit
run_richer : (old new : TextState) (commands : List Command) (replies : List Reply)
    → IsRun old commands replies new → IsRicher (state_after old commands replies) new
run_richer old new commands replies run = grind (arith, common_steps, policy_of, text_of)

ruleset richer = (all_legal_poorer, credit_richer, run_richer)

-- one run after another of one value is a run of both
pub runs_follow : (old mid new : TextState) (first second : List Command)
    (replies others : List Reply)
    → IsRun old first replies mid → IsRun mid second others new
    → IsRun old (first ++ second) (replies ++ others) new
runs_follow old mid new first second replies others a b =
    grind (arith, common_steps, richer, joined, as_many_replies, same_storage)
