use Rattle.inline_uses.proofs.Names.{arith, length, length-map, rules, sym, ◌<◌, ◌∙◌}
use Rattle.inline_uses.proofs.IndexRuns.{by_text, found_at, texts_of}
use Rattle.inline_uses.proofs.Search.{goes_after, goes_before}
use Rattle.inline_uses.proofs.index.run.Run.search_few.Goals as goal

pub returns-in-Equal-clause-found : goal.returns-in-Equal-clause-found
returns-in-Equal-clause-found g c =
    let marks = c.args.self.now.marks.items in
    let within : c.loop-at.at < length marks = search rules in
    found_at (g.T.Texts.text_of c.args.texts.now) c.args.text.now marks c.loop-at.at
    c.index.result.now within c.index.ensures
    (sym (rw c.text.ensures at c.compare_texts.ensures) ∙ c.in-Equal.is)

pub returns-in-Greater-clause-gap : goal.returns-in-Greater-clause-gap
returns-in-Greater-clause-gap g c =
    let f = g.T.Texts.text_of c.args.texts.now in
    let marks = c.args.self.now.marks.items in
    let within : c.loop-at.at < length marks = search rules in
    let part = goes_before (texts_of f marks) c.args.text.now c.loop-at.at
    (length (texts_of f marks)) c.loop-at.at c.requires.sorted c.loop-at.invariant (omega arith)
    (rw (length-map, length-map) within)
    (by_text f c.args.text.now marks c.loop-at.at c.index.result.now within c.index.ensures
    c.compare_texts.result (rw c.text.ensures at c.compare_texts.ensures) ∙ c.in-Greater.is) in
    (part.1, part.2, part.3)

pub loop-at-preserved : goal.loop-at-preserved
loop-at-preserved g c =
    let f = g.T.Texts.text_of c.args.texts.now in
    let marks = c.args.self.now.marks.items in
    let within : c.loop-at.at < length marks = search rules in
    goes_after (texts_of f marks) c.args.text.now c.loop-at.at (length (texts_of f marks))
    c.loop-at.at c.requires.sorted c.loop-at.invariant (omega arith)
    (rw (length-map, length-map) within)
    (by_text f c.args.text.now marks c.loop-at.at c.index.result.now within c.index.ensures
    c.compare_texts.result (rw c.text.ensures at c.compare_texts.ensures) ∙ c.in-Less.is)
