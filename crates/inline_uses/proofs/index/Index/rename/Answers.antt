use Rattle.inline_uses.proofs.Names.{arith, rules}
use Rattle.inline_uses.proofs.Spots.{first_renamed, index_renamed}
use Rattle.inline_uses.proofs.index.Index.rename.Goals as goal

pub returns-then-spot-eq0-clause-index : goal.returns-then-spot-eq0-clause-index
returns-then-spot-eq0-clause-index c = λ f g. first_renamed c.args.self.now c.args.spot c.args.id _
    c.rename.new.self c.requires.at c.run_mut.ensures.value c.rename.ensures.ids c.requires.firsts f
    g (c.rename.ensures.run f g) c.rename-then-spot-eq0.new.self (search rules) (search rules)
    c.rename-then-spot-eq0.ensures.ids (c.rename-then-spot-eq0.ensures.run f g)

pub returns-else-spot-gt0-clause-index : goal.returns-else-spot-gt0-clause-index
returns-else-spot-gt0-clause-index c = λ f g. index_renamed c.args.self.now c.args.spot c.args.id
    _ c.rename.new.self c.requires.at c.run_mut.ensures.value c.rename.ensures.ids
    c.requires.firsts f g (c.rename.ensures.run f g) (λ some. omega arith)
