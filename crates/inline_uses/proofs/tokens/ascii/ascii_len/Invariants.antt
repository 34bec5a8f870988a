use Rattle.std.proofs.Common.{◌≡◌, ◌+◌, ◌-◌, ◌≤◌, length, drop}
use Rattle.std.specs.List.{prefix_len}
use Rattle.inline_uses.specs.Ascii.{goes_on_in_ascii}
use Rattle.inline_uses.proofs.tokens.ascii.ascii_len.Given as goal

-- what is counted so far, and what is left to count
abbrev pub invariant-loop-len : goal.invariant-loop-len
invariant-loop-len l = (l.bytes ≡ l.source) × (l.len ≤ length l.bytes)
    × (l.len + prefix_len (goes_on_in_ascii l.fn.kind) (drop l.len l.bytes)
    ≡ prefix_len (goes_on_in_ascii l.fn.kind) l.bytes)

abbrev pub decreases-loop-len : goal.decreases-loop-len
decreases-loop-len l = length l.bytes - l.len
