use Rattle.inline_uses.proofs.Names.{drop, from_be_bytes, rules, subst, w64, ◌∙◌, ◌≡◌}
use Rattle.inline_uses.proofs.IndexMarks.{AreBytes}
use Rattle.inline_uses.proofs.Remarked.{marked_more}
use Rattle.inline_uses.proofs.index.run.Run.mark_after.Goals as goal

pub loop-i-preserved : goal.loop-i-preserved
loop-i-preserved g c =
    let read = c.as_bytes.ensures.value ∙ c.text.ensures in
    marked_more (g.T.Texts.text_of c.args.texts.now) c.args.front c.loop-i.i
    c.bits_after-bits.result c.args.self.now c.loop-i.self c.index.result.now (search rules)
    c.index.ensures
    (subst (λ bs. c.bits_after-bits.result ≡ from_be_bytes w64 (drop c.args.front bs)) read
    c.bits_after-bits.ensures.value) (subst AreBytes read c.bits_after-bits.ensures.bytes)
    c.requires.shared c.loop-i.invariant
