use Rattle.std.proofs.Common.{rules, refl}
use Rattle.inline_uses.specs.TextMap.{texts_of, deref_entry}
use Rattle.inline_uses.proofs.MapTexts.{texts_in_order, with_bytes}
use Rattle.inline_uses.proofs.Members.{one_put, all_put, flat_put}
use Rattle.inline_uses.proofs.text_map.json.TextMap+InlinableString.members.Goals as goal

pub loop-key-preserved : goal.loop-key-preserved
loop-key-preserved c =
    rw (c.in_ok-put.ensures.ok, c.as_str.ensures.bytes, c.in_ok-to_json.ensures)
    (one_put with_bytes c.loop-key.key-iterator.iter (texts_of c.args.self.now) _
    c.next.new.self.iter (deref_entry (c.in-Some.key, c.in-Some.value)) c.in-Some.ensures.steps
    (texts_in_order c.args.self.now c.iter.ensures.order) c.loop-key.invariant)

pub returns-clause-entries : goal.returns-clause-entries
returns-clause-entries c =
    all_put with_bytes c.loop-key.key-iterator.iter (texts_of c.args.self.now) _
    c.in-None.ensures.steps.0 (texts_in_order c.args.self.now c.iter.ensures.order)
    c.loop-key.invariant

pub returns-clause-flat : goal.returns-clause-flat
returns-clause-flat c = flat_put with_bytes c.loop-key.key-iterator.iter
    (texts_of c.args.self.now) _ c.loop-key.invariant
