use Rattle.inline_uses.proofs.TreeNames.{map_with_value, refl, rules, ◌≡◌}
use Rattle.inline_uses.proofs.Trees.{grown, found, found_in, no_node, some_node}
use Rattle.inline_uses.proofs.tree.Tree.put.Goals as goal

pub invariant_of-self-in-Vacant : goal.invariant_of-self-in-Vacant
invariant_of-self-in-Vacant c =
    let nodes = c.self.inside.nodes.items in
    let none = no_node nodes c.args.parent c.args.key c.self.inside.ids c.self.invariant.1
    c.requires.text
    (rw (c.in-Vacant.is, c.new.ensures) at c.in-Ok.ensures.found) in
    let new = map_with_value c.in-Ok.entry c.len-id.result in
    let copied : c.copy.result ≡ c.args.key = search rules in
    let is = found nodes c.args.parent c.args.key c.self.inside.ids new c.len-id.result
    (search rules) none c.requires.text c.self.invariant.1
    (rw c.new.ensures at (c.in-Ok.ensures.update.0 c.len-id.result).0) in
    rw (c.push.ensures.items, c.if-is_err.ensures.negation, copied) (
      grown nodes c.args.parent c.args.key c.self.invariant.0
          (rw (← c.self.view_is) at c.requires.place) none c.requires.short,
      found_in _ new _ (search rules) is,
    )

pub returns-in-Occupied-clause-taken : goal.returns-in-Occupied-clause-taken
returns-in-Occupied-clause-taken c =
    let (some, key) = rw (c.in-Occupied.is, c.new.ensures) at c.in-Ok.ensures.found in
    rw (← c.self.view_is) (
      (λ e. some_node c.self.inside.nodes.items c.args.parent c.args.key c.self.inside.ids
          c.self.invariant.1 c.requires.text some),
      λ (id, is). refl,
    )
