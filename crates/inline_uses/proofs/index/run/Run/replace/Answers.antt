use Rattle.inline_uses.proofs.Names.{map-set, refl, ◌∙◌}
use Rattle.inline_uses.proofs.Each.{all_set}
use Rattle.inline_uses.proofs.RunGrown.{run_shared, run_with}
use Rattle.inline_uses.proofs.index.run.Run.replace.Goals as goal

pub mark_after-requires-clause-shared : goal.mark_after-requires-clause-shared
mark_after-requires-clause-shared g c = run_shared (g.T.Texts.text_of c.args.texts.now)
    c.args.self.now _ _ (c.as_bytes-text.ensures.value ∙ c.text.ensures) c.requires.run _
    (λ P all is. all_set P c.args.self.now.marks.items c.args.at _ all is)
    c.shared_front-front.result c.shared_front-front.ensures.most
    c.shared_front-front.ensures.shared

pub returns-else-front-self-clause-run : goal.returns-else-front-self-clause-run
returns-else-front-self-clause-run g c = run_with (g.T.Texts.text_of c.args.texts.now)
    c.args.self.now _ _ (c.as_bytes-text.ensures.value ∙ c.text.ensures) c.requires.run _
    (λ P all is. all_set P c.args.self.now.marks.items c.args.at _ all is)
    c.shared_front-front.result c.shared_front-front.ensures.most c.if-front-self.false
    c.shared_front-front.ensures.shared c.bits_after-bits.ensures.value
    c.bits_after-bits.ensures.bytes refl (rw map-set c.requires.sorted)
