use Rattle.std.proofs.Common.{◌≡◌, ◌+◌, take, vec_len, vec_capacity}
use Rattle.inline_uses.proofs.store.window.row.push_blanks.Given as goal

abbrev pub invariant-loop : goal.invariant-loop
invariant-loop l = (take (vec_len l.initial.cells) l.cells.items ≡ l.initial.cells.items)
    × (vec_len l.cells ≡ vec_len l.initial.cells + l.counter)
    × (vec_capacity l.cells ≡ vec_capacity l.initial.cells)
