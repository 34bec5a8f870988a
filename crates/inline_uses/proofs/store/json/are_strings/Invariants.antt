use Rattle.std.proofs.Common.{◌≡◌, []}
use Rattle.serde_json.specs.View.{members_view}
use Rattle.inline_uses.specs.Store.{Entries, with_members}
use Rattle.inline_uses.proofs.store.json.are_strings.Given as goal

-- the members that are left are put into the entries of those before
abbrev pub invariant-loop-value : goal.invariant-loop-value
invariant-loop-value l = (entries : Entries)
    × (with_members [] (members_view l.fn.members.entries)
    ≡ with_members entries (members_view l.value-iterator))
