-- Two runs, the second from the state that the first left.
use Rattle.inlinable_string.proofs.Common.{common_steps, ◌≡◌, ℕ, List, [], ◌∷◌, ◌++◌, length, refl, arith, TextState, text_after, text_after_step, LegalReplies, state_after, state_after_step, Command, Reply}

-- the text after both
pub text_joined : (t : List ℕ) (first second : List Command) (replies others : List Reply)
    → length first ≡ length replies
    → text_after t (first ++ second) (replies ++ others)
    ≡ text_after (text_after t first replies) second others
text_joined t [] second [] others h = refl
text_joined t (c ∷ first) second (r ∷ replies) others h =
    text_joined (text_after_step t c r) first second replies others (omega (arith, h))
text_joined t first second replies others h = absurd (omega (arith, h))

-- the state after both
pub state_joined : (s : TextState) (first second : List Command) (replies others : List Reply)
    → length first ≡ length replies
    → state_after s (first ++ second) (replies ++ others)
    ≡ state_after (state_after s first replies) second others
state_joined s [] second [] others h = refl
state_joined s (c ∷ first) second (r ∷ replies) others h =
    state_joined (state_after_step s c r) first second replies others (omega (arith, h))
state_joined s first second replies others h = absurd (omega (arith, h))

-- the replies of both are legal where those of each are
pub legal_joined : (s : TextState) (first second : List Command) (replies others : List Reply)
    → LegalReplies s first replies → LegalReplies (state_after s first replies) second others
    → LegalReplies s (first ++ second) (replies ++ others)
legal_joined s [] second [] others h k = k
legal_joined s (c ∷ first) second (r ∷ replies) others h k =
    (h.0, legal_joined (state_after_step s c r) first second replies others h.1 k)
legal_joined s first second replies others h k = absurd h

-- and only there
pub legal_parted : (s : TextState) (first second : List Command) (replies others : List Reply)
    → length first ≡ length replies
    → LegalReplies s (first ++ second) (replies ++ others)
    → LegalReplies s first replies × LegalReplies (state_after s first replies) second others
legal_parted s [] second [] others h k = (tt, k)
legal_parted s (c ∷ first) second (r ∷ replies) others h k =
    grind (arith, common_steps, legal_parted (state_after_step s c r) first second replies others)
legal_parted s first second replies others h k = absurd (omega (arith, h))

pub ruleset joined = (text_joined, state_joined, legal_joined, legal_parted)
