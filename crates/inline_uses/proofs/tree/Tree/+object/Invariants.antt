use Rattle.inline_uses.proofs.TreeNames.{members_view}
use Rattle.inline_uses.proofs.Shown.{AreMembersBut}
use Rattle.inline_uses.proofs.tree.Tree.+object.Given as goal

abbrev pub decreases-object : goal.decreases-object
decreases-object l = l.below

abbrev pub invariant-loop-entry : goal.invariant-loop-entry
invariant-loop-entry l =
    AreMembersBut l.self l.fn.place l.below (members_view l.members.entries) l.entry-iterator
