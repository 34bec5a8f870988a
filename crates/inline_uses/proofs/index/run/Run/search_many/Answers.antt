use Rattle.inline_uses.proofs.Names.{length, length-map, rules, sym, ◌∙◌, ◌≡◌}
use Rattle.inline_uses.proofs.IndexMarks.{are_bytes}
use Rattle.inline_uses.proofs.IndexRuns.{above_all, after_middle, before_middle, below_all, found_middle, texts_of}
use Rattle.inline_uses.proofs.index.run.Run.search_many.Goals as goal

pub loop-start-preserved-in-Less : goal.loop-start-preserved-in-Less
loop-start-preserved-in-Less g c = after_middle _ c.args.text.now c.requires c.loop-start.invariant
    (search rules) c.index.ensures (are_bytes _ c.type_inv.text)
    (rw (c.bits_after-bits.ensures.value, c.as_bytes.ensures.value)
    at (sym c.compare.ensures ∙ c.in-Less.is))

pub loop-start-preserved : goal.loop-start-preserved
loop-start-preserved g c = before_middle _ c.args.text.now c.requires c.loop-start.invariant
    (search rules) c.index.ensures (are_bytes _ c.type_inv.text)
    (rw (c.bits_after-bits.ensures.value, c.as_bytes.ensures.value)
    at (sym c.compare.ensures ∙ c.in-Greater.is))

pub returns-in-Equal-clause-found : goal.returns-in-Equal-clause-found
returns-in-Equal-clause-found g c = found_middle _ c.args.text.now c.requires c.loop-start.invariant
    (search rules) c.index.ensures c.bits_after-bits.result (sym c.compare.ensures ∙ c.in-Equal.is)

pub returns-in-Less-compare_front-clause-gap : goal.returns-in-Less-compare_front-clause-gap
returns-in-Less-compare_front-clause-gap g c =
    let f = g.T.Texts.text_of c.args.texts.now in
    let run = c.args.self.now in
    let count : c.len.result ≡ length (texts_of f run.marks.items)
    = rw (c.len.ensures, length-map, length-map) (search rules) in
    rw count (below_all f run.front c.args.text.now run.marks.items c.requires.marks
    (sym c.compare_front.ensures ∙ c.in-Less-compare_front.is))

pub returns-in-Greater-compare_front-clause-gap : goal.returns-in-Greater-compare_front-clause-gap
returns-in-Greater-compare_front-clause-gap g c = above_all (g.T.Texts.text_of c.args.texts.now)
    c.args.self.now.front c.args.text.now c.args.self.now.marks.items c.requires.marks
    (sym c.compare_front.ensures ∙ c.in-Greater-compare_front.is)
