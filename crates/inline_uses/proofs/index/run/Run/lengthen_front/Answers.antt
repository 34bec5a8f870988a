use Rattle.inline_uses.proofs.Names.{arith, ◌∙◌}
use Rattle.inline_uses.proofs.RunEdits.{AreEnds, lengthened}
use Rattle.inline_uses.proofs.RunFronts.{ends_share, longest_is}
use Rattle.inline_uses.proofs.index.run.Run.lengthen_front.Given.{Over}
use Rattle.inline_uses.proofs.index.run.Run.lengthen_front.Goals.{After-as_bytes-other}
use Rattle.inline_uses.proofs.index.run.Run.lengthen_front.Goals as goal

-- the bytes are the texts of the first and of the last mark
ends : (g : Over) → (c : After-as_bytes-other g)
    → AreEnds (g.T.Texts.text_of c.args.texts.now) c.args.self.now.marks.items
    c.as_bytes-known.result.now c.as_bytes-other.result.now
ends g c = record {
  first = c.in-Some-Some.first.now;
  last = c.in-Some-Some.last.now;
  begins = rw c.deref.ensures.value at c.in-Some-Some.ensures.value;
  ends = rw c.deref-2.ensures.value at c.in-Some-Some.ensures'.value;
  one_is = c.as_bytes-known.ensures.value ∙ c.text.ensures;
  other_is = c.as_bytes-other.ensures.value ∙ c.text-2.ensures;
}

pub shared_len-front-requires : goal.shared_len-front-requires
shared_len-front-requires g c = ends_share c.args.self.now.front (ends g c) c.requires.marks

pub mark_after-requires-clause-shared : goal.mark_after-requires-clause-shared
mark_after-requires-clause-shared g c =
    let other = (goal.at.mark_after-requires-clause-shared g c).After-as_bytes-other in
    lengthened _ c.shared_len-front.result _ (ends g other) c.requires.sorted
    c.shared_len-front.ensures.shared

pub returns-then-self-front-clause-front : goal.returns-then-self-front-clause-front
returns-then-self-front-clause-front g c =
    let other = (goal.at.returns-then-self-front-clause-front g c).After-as_bytes-other in
    let is = longest_is _ _ (ends g other) c.shared_len-front.ensures.longest in
    omega (arith, is, c.mark_after.ensures.front, c.if-self-front.true)

pub returns-else-self-front-clause-front : goal.returns-else-self-front-clause-front
returns-else-self-front-clause-front g c =
    let other = (goal.at.returns-else-self-front-clause-front g c).After-as_bytes-other in
    omega (
      arith,
      longest_is _ _ (ends g other) c.shared_len-front.ensures.longest,
      c.if-self-front.false,
    )
