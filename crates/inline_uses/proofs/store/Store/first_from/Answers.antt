use Rattle.std.proofs.lemmas.Map.Entries.{length-keys_of}
use Rattle.std.specs.Map.{keys_of}
use Rattle.inline_uses.proofs.Search.{parted_at}
use Rattle.inline_uses.proofs.store.Store.first_from.Goals as goal

pub returns-in-Ok-clause-below : goal.returns-in-Ok-clause-below
returns-in-Ok-clause-below c = (parted_at c.args.key.now (keys_of c.args.self.now) c.in-Ok.at
    c.search.ensures.order c.in-Ok.ensures.found).0

pub returns-in-Ok-clause-above : goal.returns-in-Ok-clause-above
returns-in-Ok-clause-above c = λ i le less. (parted_at c.args.key.now (keys_of c.args.self.now)
    c.in-Ok.at c.search.ensures.order c.in-Ok.ensures.found).1 i le (rw length-keys_of less)
