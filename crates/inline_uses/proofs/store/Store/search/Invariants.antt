use Rattle.std.proofs.Common.{◌-◌, map}
use Rattle.inline_uses.specs.Store.{entry_of}
use Rattle.inline_uses.proofs.Search.{GoesWithin}
use Rattle.inline_uses.proofs.store.Store.search.Given as goal

abbrev pub invariant-loop-start : goal.invariant-loop-start
invariant-loop-start l = GoesWithin (map (λ e. (entry_of e).0) l.entries) l.key l.start l.end

abbrev pub decreases-loop-start : goal.decreases-loop-start
decreases-loop-start l = l.end - l.start
