-- Commands to which no memory can be refused.
use Rattle.inlinable_string.proofs.Common.{◌≡◌, ◌≢◌, ℕ, zero, suc, inl, inr, List, [], ◌∷◌, sym, ◌∙◌, arith, Contains, TextState, edit, reply_of, IsFree, IsLegal, Command, Reply, NoMemory}
use Rattle.inlinable_string.proofs.Edits.{never_refused}

-- a free command has the reply of `edit`
pub granted : (s : TextState) (command : Command) (reply : Reply) → IsLegal s command reply
    → IsFree s command → reply ≡ reply_of (edit s.text command)
granted s command reply legal free =
    elim legal.answer [ inl same ↦ same | inr refused ↦ absurd (refused.1 free) ]

-- which is not `NoMemory`
pub not_refused : (t : List ℕ) (command : Command) (reply : Reply)
    → reply ≡ reply_of (edit t command) → reply ≢ NoMemory
not_refused t command reply same refusal = never_refused (edit t command) (sym same ∙ refusal)

-- `NoMemory` is at no place of the replies, where it is not the first and not in the rest
pub absent : (reply : Reply) (replies : List Reply) → reply ≢ NoMemory → ¬ Contains replies NoMemory
    → ¬ Contains (reply ∷ replies) NoMemory
absent reply replies here there (zero, lt, is) = here is
absent reply replies here there (suc k, lt, is) = there (k, omega (arith, lt), is)

-- where there is no reply, none refuses
pub absent_nil : ¬ Contains [] NoMemory
absent_nil has = absurd (omega (arith, has.1))
