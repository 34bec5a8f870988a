use Rattle.inline_uses.proofs.Names.{add-one, ap, arith, ids_at, ids_of, insert, length, runs_of, suc, with_run, ◌+◌, ◌∙◌, ◌∷◌, ◌≤◌}
use Rattle.inline_uses.proofs.InRuns.{ids_at_is}
use Rattle.inline_uses.proofs.RunSets.{with_same}
use Rattle.inline_uses.proofs.Owned.{starts_with}
use Rattle.inline_uses.proofs.RunJoins.{both_in_order, joined, lent_among, put_back, were_there}
use Rattle.inline_uses.proofs.index.Index.join.Goals as goal

pub append-requires-clause-sorted : goal.append-requires-clause-sorted
append-requires-clause-sorted g c =
    let were = were_there c.args.self.now _ c.args.at _ _ c.requires.within
    c.remove-next.ensures.items c.remove-next.ensures.value c.run_mut.ensures.value in
    both_in_order c.run_mut.result.now c.remove-next.result (g.T.Texts.text_of c.args.texts.now)
    c.args.self.now.first c.args.self.now.later.items c.args.at were.0 were.1
    c.requires.index.sorted

pub returns-in-Ok : goal.returns-in-Ok
returns-in-Ok g c =
    let self = c.args.self.now in
    let were = were_there c.args.self.now _ c.args.at _ _ c.requires.within
    c.remove-next.ensures.items c.remove-next.ensures.value c.run_mut.ensures.value in
    let few : length (ids_at (runs_of self) c.args.at) + length (ids_at self.later.items c.args.at)
    ≤ 256 = rw (
      ids_at_is (runs_of self) c.args.at _ c.run.ensures,
      ids_at_is self.later.items c.args.at _ (rw add-one at c.run-2.ensures),
    ) (omega arith) in
    let lent = with_run (record self { later = c.remove-next.new.self }) c.args.at
    c.append.new.self in
    let both = joined c.run_mut.result.now c.remove-next.result c.append.new.self
    (g.T.Texts.text_of c.args.texts.now) self (record lent { starts = c.remove.new.self }) c.args.at
    c.requires.index were.0 were.1 c.in-Ok.ensures.ok c.append.ensures.run few
    (lent_among self c.remove-next.new.self c.args.at c.append.new.self c.remove-next.ensures.items)
    (rw starts_with at c.remove.ensures.ids)
    (c.remove.ensures.run (g.T.Texts.text_of c.args.texts.now)
    (rw starts_with c.requires.index.starts)) in
    record { index = both.0; ids = both.1 }

pub returns-in-Err : goal.returns-in-Err
returns-in-Err g c =
    let self = c.args.self.now in
    let new = c.append.new.self in
    let were = were_there self _ c.args.at _ _ c.requires.within c.remove-next.ensures.items
    c.remove-next.ensures.value c.run_mut.ensures.value in
    let lent = with_run (record self { later = c.remove-next.new.self }) c.args.at new in
    let both = with_same (g.T.Texts.text_of c.args.texts.now) self
    (record lent { later = c.insert_run.new.runs }) c.args.at c.run_mut.result.now new
    c.requires.index were.0 (ap (λ runs. lent.first ∷ runs) c.insert_run.ensures
    ∙ ap (λ runs. insert runs (suc c.args.at) c.remove-next.result)
    (lent_among self c.remove-next.new.self c.args.at new c.remove-next.ensures.items)
    ∙ put_back c.run_mut.result.now c.remove-next.result new self.first self.later.items c.args.at
    were.1) (ap ids_of (starts_with _ c.args.at new)) (rw starts_with c.requires.index.starts)
    c.append.ensures.run c.in-Err.ensures.err in
    record { index = both.0; ids = both.1 }
