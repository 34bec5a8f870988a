use Rattle.inline_uses.proofs.Names.{ap, arith, ids_in, index_of, length, remove, runs_of, suc, take, ◌-◌, ◌∙◌, ◌≡◌}
use Rattle.inline_uses.proofs.InRuns.{flat, ids_at_is}
use Rattle.inline_uses.proofs.index.Index.remove.Goals as goal

pub returns-then-len-eq1-clause-ids : goal.returns-then-len-eq1-clause-ids
returns-then-len-eq1-clause-ids g c =
    let self = c.args.self.now in
    let same : suc (c.args.spot.run - 1) ≡ c.args.spot.run = omega arith in
    let within = rw (ids_at_is (runs_of self) c.args.spot.run _ c.run.ensures)
    at c.requires.at.within in
    let place : length (flat (take (suc (c.args.spot.run - 1)) (runs_of self))) ≡ index_of self
    c.args.spot = ap (λ k. length (flat (take k (runs_of self)))) same ∙ omega (arith, within) in
    c.remove_run.ensures.ids ∙ ap (remove (ids_in self)) place
