-- One step of a run, in the contracts of the private functions that `run` is made of.
use Rattle.std.specs.Prelude.{◌≡◌, ℕ, ◌≤◌}
use Rattle.inlinable_string.specs.Text.{size}
use Rattle.inlinable_string.specs.State.{TextState}
use Rattle.inlinable_string.specs.Run.{IsLegal, state_after_step}
use Rattle.inlinable_string.specs.declared.run.Command.{Command}
use Rattle.inlinable_string.specs.declared.run.Reply.{Reply}

-- the value is in the state s, and has at least its capacity
pub record Covers (s value : TextState) : Type 0 where
  pub text : value.text ≡ s.text
  pub storage : value.storage ≡ s.storage
  pub room : s.capacity ≤ value.capacity
  pub policy : value.policy ≡ s.policy

-- a command took the value from old to new and got the reply; of the old capacity a run knows only
-- a part n for certain, and whatever that part is, the reply is legal and the new value covers the
-- state after the step
pub record IsStep (old : TextState) (command : Command) (reply : Reply) (new : TextState)
    : Type 0 where
  pub legal : (n : ℕ) → size old.text ≤ n → n ≤ old.capacity
      → IsLegal (record old { capacity = n }) command reply
  pub next : (n : ℕ) → size old.text ≤ n → n ≤ old.capacity
      → Covers (state_after_step (record old { capacity = n }) command reply) new
