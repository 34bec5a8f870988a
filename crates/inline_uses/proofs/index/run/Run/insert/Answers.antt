use Rattle.inline_uses.proofs.Names.{AllByRecursion, subst, sym, ◌∙◌}
use Rattle.inline_uses.proofs.Each.{all_insert}
use Rattle.inline_uses.proofs.RunGrown.{run_shared, run_with, sorted_grown}
use Rattle.inline_uses.proofs.index.run.Run.insert.Goals as goal

pub mark_after-requires-clause-sorted : goal.mark_after-requires-clause-sorted
mark_after-requires-clause-sorted g c = sorted_grown (g.T.Texts.text_of c.args.texts.now)
    c.args.self.now.marks.items _ _ c.args.at c.insert_mark.ensures.marks c.requires.run.sorted
    c.requires.gap

pub mark_after-requires-clause-shared : goal.mark_after-requires-clause-shared
mark_after-requires-clause-shared g c = run_shared (g.T.Texts.text_of c.args.texts.now)
    c.args.self.now _ _ (c.as_bytes-text.ensures.value ∙ c.text.ensures) c.requires.run _
    (λ P all is. subst (AllByRecursion P) (sym c.insert_mark.ensures.marks)
    (all_insert P c.args.at c.args.self.now.marks.items _ all is)) c.shared_front-front.result
    c.shared_front-front.ensures.most c.shared_front-front.ensures.shared

pub returns-else-front-self-clause-run : goal.returns-else-front-self-clause-run
returns-else-front-self-clause-run g c = run_with (g.T.Texts.text_of c.args.texts.now)
    c.args.self.now _ _ (c.as_bytes-text.ensures.value ∙ c.text.ensures) c.requires.run _
    (λ P all is. subst (AllByRecursion P) (sym c.insert_mark.ensures.marks)
    (all_insert P c.args.at c.args.self.now.marks.items _ all is)) c.shared_front-front.result
    c.shared_front-front.ensures.most c.if-front-self.false c.shared_front-front.ensures.shared
    c.bits_after-bits.ensures.value c.bits_after-bits.ensures.bytes c.insert_mark.ensures.front
    (sorted_grown (g.T.Texts.text_of c.args.texts.now) c.args.self.now.marks.items _ _ c.args.at
    c.insert_mark.ensures.marks c.requires.run.sorted c.requires.gap)
