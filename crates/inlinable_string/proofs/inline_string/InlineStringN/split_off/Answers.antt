use Rattle.inlinable_string.proofs.Parts.{front_bytes}
use Rattle.inlinable_string.proofs.inline_string.InlineStringN.split_off.Goals as goal

pub range_from-requires : goal.range_from-requires
range_from-requires g c = λ _. (c.as_str.ensures.places c.args.at).1 c.requires

pub returns-clause-front : goal.returns-clause-front
returns-clause-front g c = front_bytes c.truncate.ensures.text.1
