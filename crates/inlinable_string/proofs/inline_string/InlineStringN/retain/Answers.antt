use Rattle.inlinable_string.proofs.Common.{◌≡◌, ◌+◌, ◌-◌, arith}
use Rattle.inlinable_string.proofs.Window.{held}
use Rattle.inlinable_string.proofs.inline_string.InlineStringN.retain.Goals as goal

pub retain_in_front-self-inside-requires-clause-utf8 :
    goal.retain_in_front-self-inside-requires-clause-utf8
retain_in_front-self-inside-requires-clause-utf8 g c =
    let h = held c.self.inside.window c.self.view_is c.self.invariant in
    let s = c.self.inside.window in
    let same : s.start + s.len - s.start ≡ s.len = omega arith in rw same h.utf8
