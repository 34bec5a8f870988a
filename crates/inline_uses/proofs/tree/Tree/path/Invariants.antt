use Rattle.inline_uses.proofs.TreeNames.{IsPlaceOf, Leads, List, None, inlinable_state, joined, length, option_map, suc, unwrap_or, ℕ, ◌++◌, ◌≡◌}
use Rattle.inline_uses.proofs.Trees.{keys_up}
use Rattle.inline_uses.proofs.tree.Tree.path.Given as goal

abbrev pub invariant-up : goal.invariant-up
invariant-up l = IsPlaceOf l.self-inside.nodes.items l.place
    × Leads l.self-inside.nodes.items l.place (keys_up l.nodes.items) l.id

abbrev pub decreases-up : goal.decreases-up
decreases-up l = unwrap_or (option_map suc l.place) 0

-- with the keys that are left, the path is that of the keys
abbrev pub invariant-down : goal.invariant-down
invariant-down l = (keys : List (List ℕ)) × Leads l.self None keys l.id
    × ((inlinable_state 30 l.path).text ++ joined (keys_up l.nodes.items) ≡ joined keys)

abbrev pub decreases-down : goal.decreases-down
decreases-down l = length l.nodes.items
