-- What the refusals of a run decide, and what they leave.
use Rattle.inlinable_string.proofs.Common.{common_steps, ◌≡◌, ◌≢◌, List, [], ◌∷◌, map, refl, ap, arith, TextState, text_after_step, storage_after_step, state_after_step, storage_after, IsLegal, LegalReplies, is_refusal, Command, Reply, Done}

-- a reply is known from its text and its mark
same_reply : (s t : TextState) (command : Command) (r o : Reply) → s.text ≡ t.text
    → IsLegal s command r → IsLegal t command o → is_refusal r ≡ is_refusal o → r ≡ o
same_reply s t command r o text a b marks = grind (arith, common_steps)

-- the same text and the same refusals have the same replies
pub same_replies : (s t : TextState) (commands : List Command) (replies others : List Reply)
    → s.text ≡ t.text
    → LegalReplies s commands replies → LegalReplies t commands others
    → map is_refusal replies ≡ map is_refusal others → replies ≡ others
same_replies s t [] [] [] text a b marks = refl
same_replies s t [] [] (o ∷ others) text a b marks = absurd b
same_replies s t (c ∷ commands) (r ∷ replies) [] text a b marks = absurd b
same_replies s t (c ∷ commands) (r ∷ replies) (o ∷ others) text a b marks =
    let here : r ≡ o = same_reply s t c r o text a.0 b.0 (cc) in
    let rest : map is_refusal replies ≡ map is_refusal others = cc in
    let next : text_after_step s.text c r ≡ text_after_step t.text c o = rw (text, here) refl in
    let there = same_replies (state_after_step s c r) (state_after_step t c o) commands replies
    others next a.1 b.1 rest in
    λ i. here i ∷ there i
same_replies s t commands replies others text a b marks = absurd a

-- the storage after a step does not depend on the capacity
pub same_storage_step : (s t : TextState) (command : Command) (reply : Reply) → s.text ≡ t.text
    → s.storage ≡ t.storage → s.policy ≡ t.policy
    → storage_after_step s command reply ≡ storage_after_step t command reply
same_storage_step s t command Done text storage policy = grind (arith, common_steps)
same_storage_step s t command reply text storage policy = storage

-- the same text, storage and policy with the same replies have the same storage
pub same_storage : (s t : TextState) (commands : List Command) (replies : List Reply)
    → s.text ≡ t.text → s.storage ≡ t.storage → s.policy ≡ t.policy
    → storage_after s commands replies ≡ storage_after t commands replies
same_storage s t (c ∷ commands) (r ∷ replies) text storage policy =
    same_storage (state_after_step s c r) (state_after_step t c r) commands replies
    (ap (λ u. text_after_step u c r) text) (same_storage_step s t c r text storage policy) policy
same_storage s t commands replies text storage policy = storage

-- all replies but `Done` leave the storage
pub storage_kept : (s : TextState) (command : Command) (reply : Reply) → reply ≢ Done
    → (state_after_step s command reply).storage ≡ s.storage
storage_kept s command Done other = absurd (other refl)
storage_kept s command reply other = refl

pub ruleset decided = (same_replies, same_storage)
