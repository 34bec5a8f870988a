use Rattle.inline_uses.proofs.TreeNames.{AreFound, Excluded, Included, IsTree, Some, [], ap, arith, bytes_of, chars, inr, node_at, refl, rules, slice_get, slice_get_within, subst, suc, sym, view-Object, ℕ, ◌∙◌, ◌∷◌, ◌≡◌}
use Rattle.inline_uses.proofs.Shown.{IsTooDeep, deeper, member_put, members_shown, no_member}
use Rattle.inline_uses.proofs.tree.Tree.+object.Goals.{After-as_str-key, in-None, in-Some}
use Rattle.inline_uses.proofs.tree.Tree.+object.Goals as goal

pub loop-entry-init : goal.loop-entry-init
loop-entry-init t c =
    let ids = c.self.inside.ids in
    let found : AreFound c.args.self.now ids
    = subst (λ ns. AreFound ns ids) c.self.view_is c.self.invariant.1 in
    let items = c.range-entry-items in
    rw (c.into_iter-entry-iterator.ensures.into_iter_gives, c.new-members.ensures.empty)
    (no_member c.args.self.now c.args.place c.args.below ids (Included c.new-first.result)
    (Excluded c.new-end.result) items.result found (grind arith) (grind arith)
    (items.ensures.between tt) (items.ensures.in_range tt).0)

-- the key of an entry, and the node under the place that has it
key_of : {t : ℕ} (c : After-as_str-key t)
    → chars (bytes_of c.in-Some-2.entry.now.1) ≡ c.in-Some-2.entry.now.1
key_of c = rw c.key.ensures at
    (ap chars (sym c.as_str-key.ensures.value) ∙ c.as_str-key.ensures.text)

node_of : {t : ℕ} (c : After-as_str-key t) → slice_get c.args.self.now c.in-Some-2.id.now
    ≡ Some (node_at c.args.place c.in-Some-2.entry.now.1)
node_of c = (rw c.in-Some-2.ensures.steps at c.loop-entry.invariant).under.0 (key_of c)

pub loop-entry-preserved : goal.loop-entry-preserved
loop-entry-preserved t c =
    let tree : IsTree c.args.self.now = subst IsTree c.self.view_is c.self.invariant.0 in
    rw (c.in_ok-put.ensures.ok, c.as_str-key.ensures.value, c.key.ensures)
    (member_put (rw c.in-Some-2.ensures.steps at c.loop-entry.invariant) _ tree
    (key_of (goal.at.loop-entry-preserved t c).After-as_str-key) c.in_ok-value.ensures.shown
    c.in_ok-value.ensures.readable (search rules))

pub object-requires : goal.object-requires
object-requires t c = (
  search rules,
  slice_get_within c.args.self.now c.in-Some-2.id.now _
      (node_of (goal.at.object-requires t c).After-as_str-key),
)

pub returns-then-below-eq0-clause-fault : goal.returns-then-below-eq0-clause-fault
returns-then-below-eq0-clause-fault t c =
    let is = node_of (goal.at.returns-then-below-eq0-clause-fault t c).After-as_str-key in
    inr (refl, (c.in-Some-2.entry.now.1 ∷ [], _, (c.in-Some-2.id.now, is, refl), omega arith))

pub returns-clause-shown : goal.returns-clause-shown
returns-clause-shown t c = rw (view-Object c.loop-entry.members)
    (members_shown c.loop-entry.invariant (search rules))

pub returns-in_err-value-clause-fault : goal.returns-in_err-value-clause-fault
returns-in_err-value-clause-fault t c =
    let is = node_of (goal.at.returns-in_err-value-clause-fault t c).After-as_str-key in
    let fault : IsTooDeep c.args.self.now c.args.place (suc c.args.below) c.in_err-value.field-0.0
    = deeper c.args.self.now c.args.place _ c.in-Some-2.id.now _ _ _ is (omega arith)
    c.in_err-value.ensures.fault in
    search (rules, fault)
