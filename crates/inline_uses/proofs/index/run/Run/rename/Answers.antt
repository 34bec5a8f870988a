use Rattle.inline_uses.proofs.Names.{ap, map-set_same, with_item}
use Rattle.inline_uses.proofs.SameTexts.{renamed_run}
use Rattle.inline_uses.proofs.index.run.Run.rename.Goals as goal

pub returns-clause-run : goal.returns-clause-run
returns-clause-run c = λ before after. renamed_run before after c.args.self.now
    (with_item c.args.self.now.marks c.args.at _)
    (map-set_same (λ m. m.bits) c.args.self.now.marks.items c.args.at _ c.index_mut.result.now
    (ap (λ m. m.bits) c.index_mut.ensures.value))
