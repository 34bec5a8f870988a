use Rattle.inlinable_string.proofs.Lawful.{heap_lawful}
use Rattle.inlinable_string.proofs.string_ext.std_string.StringStringExt.storage.Goals as goal

pub returns-clause-laws : goal.returns-clause-laws
returns-clause-laws c = heap_lawful _ c.args.self.now
