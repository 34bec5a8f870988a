use Rattle.std.proofs.Common.{rules}
use Rattle.inlinable_string.proofs.Text.{char_size}
use Rattle.inlinable_string.proofs.Window.{size_one, chars_one}
use Rattle.inlinable_string.proofs.inlinable_string.InlinableStringN.push_general.Goals as goal

pub returns-in-Heap-clause-text : goal.returns-in-Heap-clause-text
returns-in-Heap-clause-text g c = search (rules, chars_one, size_one, char_size)

pub returns-in-Ok-clause-text : goal.returns-in-Ok-clause-text
returns-in-Ok-clause-text g c = search (rules, chars_one, size_one, char_size)

pub returns-in-Err-clause-text : goal.returns-in-Err-clause-text
returns-in-Err-clause-text g c = search (rules, chars_one, size_one, char_size)
