use Rattle.std.proofs.lemmas.Str.{chars-append}
use Rattle.inline_uses.proofs.tokens.chars_of_parts.Goals as goal

pub returns-clause-joined : goal.returns-clause-joined
returns-clause-joined c = chars-append c.args.text.now c.args.rest.now c.utf8.text
