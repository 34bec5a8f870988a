use Rattle.inline_uses.proofs.IndexMarks.{are_bytes}
use Rattle.inline_uses.proofs.index.mark.bits_after.Goals as goal

pub returns-in-Some-clause-bytes : goal.returns-in-Some-clause-bytes
returns-in-Some-clause-bytes c = are_bytes c.args.bytes.now c.type_inv.bytes

pub returns-in-None-clause-value : goal.returns-in-None-clause-value
returns-in-None-clause-value c = rw c.rest_of-rest.ensures at c.bits_of_few.ensures

pub returns-in-None-clause-bytes : goal.returns-in-None-clause-bytes
returns-in-None-clause-bytes c = are_bytes c.args.bytes.now c.type_inv.bytes
