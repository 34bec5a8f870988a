use Rattle.serde_json.specs.View.{members_view}
use Rattle.inline_uses.specs.Store.{entry_of}
use Rattle.inline_uses.proofs.Members.{ArePut}
use Rattle.inline_uses.proofs.store.Store.members.Given as goal

abbrev pub invariant-loop-key : goal.invariant-loop-key
invariant-loop-key l =
    ArePut entry_of l.key-iterator.iter.rest.now l.fn.self (members_view l.members.entries)
