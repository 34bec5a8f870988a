use Rattle.inline_uses.proofs.Names.{IsOrdered, ids_of, runs_of, sym}
use Rattle.inline_uses.proofs.InRuns.{run_within}
use Rattle.inline_uses.proofs.Each.{all_at}
use Rattle.inline_uses.proofs.Spots.{found_spot, gap_spot}
use Rattle.inline_uses.proofs.index.Index.locate_in.Goals as goal

pub run-requires : goal.run-requires
run-requires g c = run_within (g.T.Texts.text_of c.args.texts.now) c.args.text.now
    (ids_of c.args.self.now.starts) c.args.self.now.later.items c.args.run c.requires.index.firsts
    c.requires.gap

pub search-requires : goal.search-requires
search-requires g c = all_at (IsOrdered (g.T.Texts.text_of c.args.texts.now))
    (runs_of c.args.self.now) c.args.run c.run.result.now c.requires.index.runs (sym c.run.ensures)

pub returns-in-Ok : goal.returns-in-Ok
returns-in-Ok g c =
    let is = found_spot (g.T.Texts.text_of c.args.texts.now) c.args.text.now c.args.self.now
    (record { run = c.args.run; at = c.in-Ok.at }) c.run.result.now c.run.ensures
    c.in-Ok.ensures.found in
    record { at = is.0; found = is.1; spot = tt; gap = tt }

pub returns-in-Err : goal.returns-in-Err
returns-in-Err g c =
    let is = gap_spot (g.T.Texts.text_of c.args.texts.now) c.args.text.now c.args.self.now
    (record { run = c.args.run; at = c.in-Err.at }) c.run.result.now c.run.ensures c.requires.index
    c.requires.gap c.in-Err.ensures.gap in
    record { at = tt; found = tt; spot = is.0; gap = is.1 }
