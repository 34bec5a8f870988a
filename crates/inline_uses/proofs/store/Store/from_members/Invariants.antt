use Rattle.std.proofs.Common.{◌≡◌, []}
use Rattle.serde_json.specs.View.{members_view}
use Rattle.inline_uses.specs.Store.{with_members}
use Rattle.inline_uses.proofs.store.Store.from_members.Given as goal

abbrev pub invariant-loop-name : goal.invariant-loop-name
invariant-loop-name l = with_members [] (members_view l.fn.members.entries)
    ≡ with_members l.store (members_view l.name-iterator)
