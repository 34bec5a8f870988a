use Rattle.inline_uses.proofs.TreeNames.{view}
use Rattle.inline_uses.proofs.ReadBack.{AreAdded}
use Rattle.inline_uses.proofs.tree.Tree.+add_json.Given as goal

abbrev pub invariant-loop-key : goal.invariant-loop-key
invariant-loop-key l =
    AreAdded l.fn.self l.self l.place l.levels (view l.fn.value) l.key-iterator

abbrev pub decreases-add_json : goal.decreases-add_json
decreases-add_json l = l.levels
