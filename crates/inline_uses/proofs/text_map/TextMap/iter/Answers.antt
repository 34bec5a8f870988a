use Rattle.inline_uses.proofs.Names.{by_number, ◌∙◌}
use Rattle.inline_uses.proofs.Places.{all_between}
use Rattle.inline_uses.proofs.text_map.TextMap.iter.Goals as goal

pub returns-clause-all : goal.returns-clause-all
returns-clause-all g c = c.new.ensures ∙ all_between (by_number c.self.inside) c.self.inside.order
    c.self.invariant _ _ c.start.ensures.at c.end.ensures.at ∙ c.self.view_is
