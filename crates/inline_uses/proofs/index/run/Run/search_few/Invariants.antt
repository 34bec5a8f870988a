use Rattle.inline_uses.proofs.Names.{length}
use Rattle.inline_uses.proofs.IndexRuns.{texts_of}
use Rattle.inline_uses.proofs.Search.{GoesWithin}
use Rattle.inline_uses.proofs.index.run.Run.search_few.Given as goal

abbrev pub invariant-loop-at : goal.invariant-loop-at
invariant-loop-at g l =
    let texts = texts_of (g.T.Texts.text_of l.texts) l.self.marks.items in
    GoesWithin texts l.text l.at (length texts)
