use Rattle.inline_uses.specs.Symbols.{HasAppended}
use Rattle.inline_uses.proofs.Appended.{Keeps}
use Rattle.inline_uses.proofs.symbols.Symbols.intern_all.Given as goal

abbrev pub invariant-loop-text : goal.invariant-loop-text
invariant-loop-text g l = HasAppended l.self l.fn.ids.items l.yielded l.ids.items
    × Keeps l.fn.self l.self
