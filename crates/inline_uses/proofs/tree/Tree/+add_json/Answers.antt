use Rattle.inline_uses.proofs.TreeNames.{IsFaultOf, [], arith, bytes_of, chars, length, length-append, members_view, no_members, rules, string_bytes, view, view-Object, ◌≡◌, ◌≤◌}
use Rattle.inline_uses.proofs.Listed.{none_under}
use Rattle.inline_uses.proofs.ReadBack.{IsReadBut, none_added, not_taken, one_added}
use Rattle.inline_uses.proofs.Readable.{not_added}
use Rattle.inline_uses.proofs.Shown.{all_shown}
use Rattle.inline_uses.proofs.tree.Tree.+add_json.Goals as goal

pub loop-key-init : goal.loop-key-init
loop-key-init t c = none_added c.args.self.now c.args.place c.args.levels _
    c.in-Object.members.entries _ (rw c.in-Object.is (view-Object c.in-Object.members))
    (search rules) c.requires.place c.requires.free c.iter-key-items.ensures.ordered

pub loop-key-preserved : goal.loop-key-preserved
loop-key-preserved t c =
    let key = string_bytes c.in-Some.key.now in
    let was = rw c.in-Some.ensures.steps at c.loop-key.invariant in
    let short : length key ≤ 16 = grind (arith, c.as_str.ensures.value, c.add.ensures.long_key.1) in
    let bytes : bytes_of (chars key) ≡ key = search rules in
    let added = c.in_ok-add_json.ensures in
    one_added was c.len-id.ensures.tree short bytes c.add.new.self c.add_json.new.self
    c.as_str.result.now c.len-id.result c.in_ok-add.ensures.ok c.as_str.ensures.value
    c.len-id.ensures.count added.ok added.shown added.readable (search rules)

pub add_json-requires : goal.add_json-requires
add_json-requires t c = (
  search rules,
  (
    rw (c.in_ok-add.ensures.ok, length-append) (omega (arith, c.len-id.ensures.count)),
    rw (c.in_ok-add.ensures.ok, c.len-id.ensures.count) (none_under c.loop-key.self c.args.place _
        c.len-id.ensures.tree c.loop-key.invariant.within),
  ),
)

pub returns-in_err-add-clause-fault : goal.returns-in_err-add-clause-fault
returns-in_err-add-clause-fault t c =
    let d = view c.args.value.now in
    let key = string_bytes c.in-Some.key.now in
    let e = view c.in-Some.member.now in
    let left = members_view c.next.new.self in
    let was = rw c.in-Some.ensures.steps at c.loop-key.invariant in
    let fault : IsFaultOf c.args.levels d c.in_err-add.field-0.0
    = not_added c.args.levels d key e left c.in_err-add.field-0.0 c.add.result was.decide
    c.in_err-add.was (rw c.as_str.ensures.value at c.add.ensures.long_key.0)
    (λ none. (c.add.ensures.no_node.0 none).1 was.within)
    (λ h. let (_, _, (id, is)) = c.add.ensures.taken.0 h in
    not_taken c.loop-key.self c.args.place key d e left (search rules) was.read id
    (rw c.as_str.ensures.value at is)) c.add.ensures.object c.add.ensures.depth in
    search (rules, fault)

pub returns-clause-shown : goal.returns-clause-shown
returns-clause-shown t c =
    let none : c.loop-key.key-iterator ≡ [] = search rules in
    let read : IsReadBut c.loop-key.self c.args.place (view c.args.value.now) no_members
    = rw none at c.loop-key.invariant.read in
    let shown = all_shown c.loop-key.self c.args.place (view c.args.value.now) read in
    search (rules, shown)
