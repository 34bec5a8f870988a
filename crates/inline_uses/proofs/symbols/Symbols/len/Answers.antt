use Rattle.inline_uses.specs.Symbols.{texts_of}
use Rattle.inline_uses.proofs.Ids.{once}
use Rattle.inline_uses.proofs.symbols.Symbols.len.Goals as goal

pub returns-clause-once : goal.returns-clause-once
returns-clause-once c = rw (← c.self.view_is) (once (texts_of c.self.inside) _ c.self.invariant.0)
