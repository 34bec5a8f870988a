use Rattle.std.proofs.Common.{arith}
use Rattle.inlinable_string.proofs.AsciiCase.{uppercased}
use Rattle.inlinable_string.proofs.Window.{held}
use Rattle.inlinable_string.proofs.inline_string.InlineStringN.make_ascii_uppercase.Goals as goal

pub invariant_of-self : goal.invariant_of-self
invariant_of-self g c =
    let h = held c.self.inside.window c.self.view_is c.self.invariant in
    (omega arith, c.self.invariant.1, (uppercased h c.uppercase_window.ensures).0)

pub returns : goal.returns
returns g c =
    let h = held c.self.inside.window c.self.view_is c.self.invariant in
    let new = uppercased h c.uppercase_window.ensures in
    record { text = new.1; bytes = new.2; len = new.3 }
