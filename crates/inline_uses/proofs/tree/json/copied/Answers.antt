use Rattle.inline_uses.proofs.TreeNames.{view}
use Rattle.inline_uses.proofs.ReadBack.{shown_again}
use Rattle.inline_uses.proofs.tree.json.copied.Goals as goal

pub returns-clause-same : goal.returns-clause-same
returns-clause-same c =
    shown_again c.args.tree.now (view c.in_ok-value.value) c.from_json.result
    c.in_ok-value.ensures.shown c.from_json.ensures.shown
