use Rattle.inline_uses.proofs.Names.{ap, refl, rules, ◌∷◌}
use Rattle.inline_uses.proofs.RunSplits.{IsRoomy, spot_moved, unsplit, upper_gap, upper_some}
use Rattle.inline_uses.proofs.index.Index.split.Given.{Over}
use Rattle.inline_uses.proofs.index.Index.split.Goals.{After-split_run}
use Rattle.inline_uses.proofs.index.Index.split.Goals as goal

-- the index has room for one run more when a run is split
ready : (g : Over) → (c : After-split_run g) → let self = c.args.self.now in
    IsRoomy (g.T.Texts.text_of c.args.texts.now) self
    (record self { later = c.reserve.new.self; starts = c.reserve-2.new.self }) c.split_run.new.self
ready g c = record {
  index = c.requires.index;
  runs = ap (λ runs. c.args.self.now.first ∷ runs) c.in_ok-reserve.ensures.items;
  starts = rw c.split_run.ensures.starts c.in_ok-reserve-2.ensures.ids;
  ordered = rw c.split_run.ensures.starts (c.in_ok-reserve-2.ensures.run _ c.requires.index.starts);
}

pub returns-in_err-upper : goal.returns-in_err-upper
returns-in_err-upper g c =
    let is = unsplit (ready g (goal.at.returns-in_err-upper g c).After-split_run)
    c.in_err-upper.ensures.err in record {
      index = is.0;
      ids = is.1;
      room = search rules;
      spot = search rules;
      at = search rules;
    }

pub id-requires : goal.id-requires
id-requires g c = upper_some (ready g (goal.at.id-requires g c).After-split_run) c.requires.some
    c.requires.not_all c.requires.full c.requires.spot c.in_ok-upper.ensures.ok

pub put-requires-clause-gap : goal.put-requires-clause-gap
put-requires-clause-gap g c =
    upper_gap (ready g (goal.at.put-requires-clause-gap g c).After-split_run) c.requires.some
    c.requires.not_all c.requires.full c.requires.spot c.in_ok-upper.ensures.ok c.id.ensures

-- the runs are those before, with two for the one that was split, and so is the spot
pub returns : goal.returns
returns g c =
    let is = spot_moved (ready g (goal.at.returns g c).After-split_run) c.requires.some
    c.requires.not_all c.requires.full c.requires.spot c.in_ok-upper.ensures.ok _ _ c.id.result refl
    c.insert_run.ensures c.put.ensures.ids c.put.ensures.run c.id.ensures
    c.after_split.ensures.lower c.after_split.ensures.upper in
    record { index = is.index; ids = is.ids; room = is.room; spot = is.spot; at = is.at }
