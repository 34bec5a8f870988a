use Rattle.inline_uses.proofs.Names.{Some, ap, arith, entry_of, length, length-map, map, rules, suc, ◌-◌, ◌∙◌, ◌≡◌}
use Rattle.inline_uses.proofs.Deleted.{LacksOne, last_renumbered, last_there, other_renumbered}
use Rattle.inline_uses.proofs.text_map.rename_last.Given.{Over}
use Rattle.inline_uses.proofs.text_map.rename_last.Goals.{After-len-last}
use Rattle.inline_uses.proofs.text_map.rename_last.Goals as goal

-- the entries have a last one, and the index has the numbers of all except one
left : (g : Over) → (c : After-len-last g) → LacksOne (map entry_of c.args.entries.now.items)
    (c.len-last.result - 1) c.args.id c.args.order.now
left g c =
    let items = c.args.entries.now.items in
    let len : c.len-last.result ≡ length items = search rules in
    let count : length items ≡ suc (c.len-last.result - 1)
    = omega (arith, len, c.requires.within) in
    record {
      all = length-map items entry_of ∙ count;
      within = rw count at c.requires.within;
      others = rw count at c.requires.others;
      index = c.requires.index;
    }

pub returns-then-id-last : goal.returns-then-id-last
returns-then-id-last g c =
    last_renumbered (left g (goal.at.returns-then-id-last g c).After-len-last) c.if-id-last.true

pub returns-in-Ok : goal.returns-in-Ok
returns-in-Ok g c = other_renumbered (left g (goal.at.returns-in-Ok g c).After-len-last)
    c.if-id-last.false _ _ (c.in-Ok.ensures.found ∙ ap Some c.text.ensures) c.rename.ensures.ids
    c.rename.ensures.index

pub returns-in_default : goal.returns-in_default
returns-in_default g c =
    absurd (last_there (left g (goal.at.returns-in_default g c).After-len-last) c.if-id-last.false _
    (rw c.text.ensures at c.in_default.ensures.gap))
