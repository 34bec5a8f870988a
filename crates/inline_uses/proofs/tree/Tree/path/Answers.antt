use Rattle.inline_uses.proofs.TreeNames.{Some, [], ap, fold-append, rules, slice_get, slice_get-get_or, sym, ◌++◌, ◌∙◌, ◌∷◌, ◌≡◌}
use Rattle.inline_uses.proofs.Trees.{above, keys_up}
use Rattle.inline_uses.proofs.tree.Tree.path.Goals as goal

pub up-preserved : goal.up-preserved
up-preserved c =
    let nodes = c.self.inside.nodes.items in
    let at = c.in-Some.at in
    let node = c.index-node.result in
    let (within, leads) = rw c.in-Some.is at c.up.invariant in
    let is : slice_get nodes at ≡ Some node.now
    = slice_get-get_or nodes at node.now within ∙ ap Some (sym c.index-node.ensures) in
    let pushed : c.push.new.self.items ≡ c.up.nodes.items ++ node ∷ [] = search rules in
    rw (pushed, fold-append) (above nodes at c.args.id node.now (keys_up c.up.nodes.items)
    c.self.invariant.0 is leads)
