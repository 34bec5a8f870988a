use Rattle.inlinable_string.proofs.Text.{size-string}
use Rattle.inlinable_string.proofs.Lawful.{heap_lawful}
use Rattle.inlinable_string.proofs.string_ext.std_string.StringStringExt.len.Goals as goal

pub returns-clause-value : goal.returns-clause-value
returns-clause-value c = rw (size-string c.args.self.now) c.len.ensures

pub returns-clause-laws : goal.returns-clause-laws
returns-clause-laws c = heap_lawful _ c.args.self.now
