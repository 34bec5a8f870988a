use Rattle.inlinable_string.proofs.Common.{arith, rules, sym}
use Rattle.inlinable_string.proofs.Text.{holds_chars, size_of, size-pushed_str, bytes-pushed_str, ascii-pushed_str}
use Rattle.inlinable_string.proofs.Window.{held, pushed}
use Rattle.inlinable_string.proofs.inline_string.InlineStringN.push_str.Goals as goal

pub returns-in_err-append-clause-fits : goal.returns-in_err-append-clause-fits
returns-in_err-append-clause-fits g c =
    let h = held c.self.inside.window c.self.view_is c.self.invariant in
    let over = rw (sym (size_of h), c.as_bytes.ensures.value) at c.in_err-append.ensures.fits in
    search (rules, over)

pub invariant_of-self : goal.invariant_of-self
invariant_of-self g c = rw c.in_err-append.ensures.err c.self.invariant

pub invariant_of-self-2 : goal.invariant_of-self-2
invariant_of-self-2 g c =
    let h = held c.self.inside.window c.self.view_is c.self.invariant in
    let text = rw c.as_bytes.ensures.value at c.in_ok-append.ensures.text in
    let new = pushed h (holds_chars c.utf8.string) text in
    (c.in_ok-append.ensures.inside.0, c.in_ok-append.ensures.inside.1, new.0)

pub returns : goal.returns
returns g c =
    let h = held c.self.inside.window c.self.view_is c.self.invariant in
    let text = rw c.as_bytes.ensures.value at c.in_ok-append.ensures.text in
    let ok = (pushed h (holds_chars c.utf8.string) text).1 in
    record {
      fits = omega (arith, size_of h, c.in_ok-append.ensures.fits);
      ok = ok;
      bytes = bytes-pushed_str c.utf8.string _ _ ok;
      ascii = λ a. ascii-pushed_str _ _ _ a ok;
      len = size-pushed_str c.utf8.string _ _ ok;
      err = tt;
    }
