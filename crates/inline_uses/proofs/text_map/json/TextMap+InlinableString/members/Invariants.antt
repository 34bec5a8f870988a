use Rattle.serde_json.specs.View.{members_view}
use Rattle.inline_uses.specs.TextMap.{texts_of}
use Rattle.inline_uses.proofs.MapTexts.{with_bytes}
use Rattle.inline_uses.proofs.Members.{ArePut}
use Rattle.inline_uses.proofs.text_map.json.TextMap+InlinableString.members.Given as goal

abbrev pub invariant-loop-key : goal.invariant-loop-key
invariant-loop-key l =
    ArePut with_bytes l.key-iterator.iter (texts_of l.fn.self) (members_view l.members.entries)
