use Rattle.inline_uses.proofs.Names.{arith, rules}
use Rattle.inline_uses.proofs.Owned.{starts_with}
use Rattle.inline_uses.proofs.RunRemovals.{next_in_order, some_left, with_less, with_next}
use Rattle.inline_uses.proofs.index.Index.remove_from_run.Goals as goal

pub returns-then-spot-eq0 : goal.returns-then-spot-eq0
returns-then-spot-eq0 g c =
    let both = with_less c.requires.index c.requires.at c.run_mut-run.ensures.value
    (c.remove.ensures.run (g.T.Texts.text_of c.args.texts.now)) c.remove.ensures.ids
    (λ past. absurd (omega (arith, past, c.if-spot-eq0.true))) in
    record { index = both.0; ids = both.1; runs = search rules }

pub id-first-requires : goal.id-first-requires
id-first-requires g c = some_left c.requires.index c.requires.at c.run_mut-run.ensures.value
    (c.remove.ensures.run (g.T.Texts.text_of c.args.texts.now)) c.remove.ensures.ids
    (c.requires.more (search rules))

pub replace-requires-clause-sorted : goal.replace-requires-clause-sorted
replace-requires-clause-sorted g c = rw starts_with
    (next_in_order c.requires.index c.requires.at c.run_mut-run.ensures.value
    (c.remove.ensures.run (g.T.Texts.text_of c.args.texts.now)) c.remove.ensures.ids
    (search rules) c.id-first.ensures)

pub returns-then-spot-eq0-2 : goal.returns-then-spot-eq0-2
returns-then-spot-eq0-2 g c =
    let both = with_next c.requires.index c.requires.at c.run_mut-run.ensures.value
    (c.remove.ensures.run (g.T.Texts.text_of c.args.texts.now)) c.remove.ensures.ids
    (search rules) c.id-first.ensures c.replace.new.self c.replace.ensures.run
    (rw starts_with at c.replace.ensures.ids) in
    record { index = both.0; ids = both.1; runs = search rules }

pub returns-else-spot-eq0-2 : goal.returns-else-spot-eq0-2
returns-else-spot-eq0-2 g c =
    let both = with_less c.requires.index c.requires.at c.run_mut-run.ensures.value
    (c.remove.ensures.run (g.T.Texts.text_of c.args.texts.now)) c.remove.ensures.ids
    (λ past. search rules) in
    record { index = both.0; ids = both.1; runs = search rules }
