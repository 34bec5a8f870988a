use Rattle.inline_uses.proofs.Names.{length-map}
use Rattle.inline_uses.proofs.Search.{parted_at}
use Rattle.inline_uses.proofs.index.Index.place_from.Goals as goal

pub returns-in-Ok-clause-below : goal.returns-in-Ok-clause-below
returns-in-Ok-clause-below g c =
    (parted_at c.args.text.now _ _ c.requires.sorted c.in-Ok.ensures.found).0

pub returns-in-Ok-clause-above : goal.returns-in-Ok-clause-above
returns-in-Ok-clause-above g c = λ i le less.
    (parted_at c.args.text.now _ _ c.requires.sorted c.in-Ok.ensures.found).1 i le
    (rw length-map less)
