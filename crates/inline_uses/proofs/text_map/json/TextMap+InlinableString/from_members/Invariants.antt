use Rattle.std.proofs.Common.{◌≡◌, []}
use Rattle.serde_json.specs.View.{members_view}
use Rattle.inline_uses.specs.Store.{with_members}
use Rattle.inline_uses.specs.TextMap.{texts_of}
use Rattle.inline_uses.proofs.text_map.json.TextMap+InlinableString.from_members.Given as goal

abbrev pub invariant-loop-name : goal.invariant-loop-name
invariant-loop-name l = with_members [] (members_view l.fn.members.entries)
    ≡ with_members (texts_of l.map) (members_view l.name-iterator)
