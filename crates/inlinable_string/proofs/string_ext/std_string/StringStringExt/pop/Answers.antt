use Rattle.inlinable_string.proofs.Common.{IsUtf8-string_bytes}
use Rattle.inlinable_string.proofs.Text.{popped-text, size-popped, size_bound}
use Rattle.inlinable_string.proofs.string_ext.std_string.StringStringExt.pop.Goals as goal

pub returns-clause-text : goal.returns-clause-text
returns-clause-text c =
    let old = c.args.self.now in
    let new = c.pop.new.self in
    let e = c.pop.ensures in
    popped-text _ _ _ (IsUtf8-string_bytes old) (IsUtf8-string_bytes new) e.bytes
    (rw (← old.bytes.ok.0) e.none) (rw (← old.bytes.ok.0, ← new.bytes.ok.0) e.bound)

pub returns-clause-len : goal.returns-clause-len
returns-clause-len c = size-popped _ _ _ (returns-clause-text c)

pub returns-clause-bound : goal.returns-clause-bound
returns-clause-bound c = size_bound _ _ _ (returns-clause-text c)
