use Rattle.std.proofs.lemmas.List.{nil_from_length}
use Rattle.inline_uses.specs.Store.{entry_of}
use Rattle.inline_uses.proofs.Members.{one_put, all_put, flat_put}
use Rattle.inline_uses.proofs.store.Store.members.Goals as goal

pub loop-key-preserved : goal.loop-key-preserved
loop-key-preserved c =
    rw (c.in_ok-put.ensures.ok, c.as_str.ensures.bytes, c.in_ok-to_json.ensures)
    (one_put entry_of c.loop-key.key-iterator.iter.rest.now c.args.self.now _
    c.next.new.self.iter.rest.now c.in-Some.field-0.now c.in-Some.ensures.steps
    c.scan.ensures.order c.loop-key.invariant)

pub returns-clause-entries : goal.returns-clause-entries
returns-clause-entries c =
    all_put entry_of c.loop-key.key-iterator.iter.rest.now c.args.self.now _
    (nil_from_length _ c.in-None.ensures.steps.0) c.scan.ensures.order c.loop-key.invariant

pub returns-clause-flat : goal.returns-clause-flat
returns-clause-flat c = flat_put entry_of c.loop-key.key-iterator.iter.rest.now c.args.self.now _
    c.loop-key.invariant
