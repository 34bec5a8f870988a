use Rattle.std.proofs.Common.{sym, ◌∙◌}
use Rattle.inline_uses.specs.Index.{ids_in, index_of}
use Rattle.inline_uses.proofs.Search.{past_all}
use Rattle.inline_uses.proofs.index.Index.end_for.Goals as goal

pub returns-in-Less-clause-gap : goal.returns-in-Less-clause-gap
returns-in-Less-clause-gap g c = rw c.end-end.ensures.at (past_all
    (g.T.Texts.text_of c.args.texts.now) (ids_in c.args.self.now) c.args.text.now
    (index_of c.args.self.now c.in_ok-last.last) c.id.result c.requires.sorted c.id.ensures
    (c.in_ok-last.ensures.same ∙ c.end-end.ensures.at)
    (rw c.text.ensures at (sym c.compare_texts.ensures ∙ c.in-Less.is)))
