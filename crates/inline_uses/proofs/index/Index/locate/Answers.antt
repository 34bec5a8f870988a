use Rattle.inline_uses.proofs.Names.{ids_of, length-map, map, rules}
use Rattle.inline_uses.proofs.Owned.{have_length}
use Rattle.inline_uses.proofs.IndexRuns.{gap_in_none}
use Rattle.inline_uses.proofs.index.Index.locate.Goals as goal

pub locate_in-requires-clause-gap : goal.locate_in-requires-clause-gap
locate_in-requires-clause-gap g c =
    gap_in_none (map (g.T.Texts.text_of c.args.texts.now) (ids_of c.args.self.now.starts))
    c.args.text.now (rw (
      length-map,
      have_length (ids_of c.args.self.now.starts) c.args.self.now.later.items c.requires.firsts,
    ) (search rules))
