use Rattle.inline_uses.proofs.Names.{bytes_at, rules, ◌≡◌}
use Rattle.inline_uses.proofs.Pushed.{IsPushed, entries_pushed, mapped_back, mapped_pushed, pushed_gap, pushed_index}
use Rattle.inline_uses.proofs.text_map.insert.Given.{Over}
use Rattle.inline_uses.proofs.text_map.insert.Goals.{In_default-push}
use Rattle.inline_uses.proofs.text_map.insert.Goals as goal

pushed : (g : Over) → (c : In_default-push g) → IsPushed c.args.entries.now.items
    c.push.new.self.items c.args.order.now c.args.key.now c.args.value c.args.spot c.len-id.result
pushed g c =
    let name : bytes_at c.in-Ok.key ≡ c.args.key.now = search rules in
    record {
      text = c.in-Ok.key;
      bytes = name;
      grown_is = c.in_default-push.ensures.items;
      id_is = search rules;
      mapped = c.requires.mapped;
      missing = c.requires.missing;
    }

pub insert-requires-clause-index : goal.insert-requires-clause-index
insert-requires-clause-index g c =
    pushed_index (pushed g (goal.at.insert-requires-clause-index g c).In_default-push)

pub insert-requires-clause-gap : goal.insert-requires-clause-gap
insert-requires-clause-gap g c =
    pushed_gap (pushed g (goal.at.insert-requires-clause-gap g c).In_default-push)

pub returns-in-Ok-insert-clause-mapped : goal.returns-in-Ok-insert-clause-mapped
returns-in-Ok-insert-clause-mapped g c = mapped_pushed
    (pushed g (goal.at.returns-in-Ok-insert-clause-mapped g c).In_default-push)
    c.insert.new.self c.in-Ok-insert.ensures.ok c.in-Ok-insert.ensures.index

pub returns-in-Ok-insert-clause-ok : goal.returns-in-Ok-insert-clause-ok
returns-in-Ok-insert-clause-ok g c = entries_pushed
    (pushed g (goal.at.returns-in-Ok-insert-clause-ok g c).In_default-push)
    c.insert.new.self c.in-Ok-insert.ensures.ok c.in-Ok-insert.ensures.index

pub returns-in-Err-insert-clause-mapped : goal.returns-in-Err-insert-clause-mapped
returns-in-Err-insert-clause-mapped g c = mapped_back
    (pushed g (goal.at.returns-in-Err-insert-clause-mapped g c).In_default-push)
    c.insert.new.self c.in-Err-insert.ensures.err c.in-Err-insert.ensures.index
    c.swap_remove-value.new.self.items c.swap_remove-value.result c.swap_remove-value.ensures.items
