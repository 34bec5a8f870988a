use Rattle.inline_uses.proofs.Spots.{added_at, gap_at}
use Rattle.inline_uses.proofs.index.Index.insert_at.Goals as goal

pub add-requires-clause-gap : goal.add-requires-clause-gap
add-requires-clause-gap g c = gap_at (g.T.Texts.text_of c.args.texts.now) c.args.self.now
    c.args.spot c.args.id c.run_mut.result.now c.run_mut.ensures.value c.requires.spot
    c.requires.gap

pub returns : goal.returns
returns g c =
    let is = added_at (g.T.Texts.text_of c.args.texts.now) c.args.self.now c.args.spot c.args.id
    c.run_mut.result.now c.run_mut.ensures.value c.requires.spot c.requires.gap c.requires.index
    c.requires.room c.add.new.self c.add.result c.add.ensures.run c.add.ensures.ok
    c.add.ensures.err in
    record { index = is.0; ok = is.1; err = is.2 }
