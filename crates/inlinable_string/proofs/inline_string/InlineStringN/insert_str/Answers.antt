use Rattle.inlinable_string.proofs.Common.{arith, rules, sym}
use Rattle.inlinable_string.proofs.Text.{holds_chars, size_of, size-spliced_str, ascii-spliced_str, place_within, place_behind_str}
use Rattle.inlinable_string.proofs.Window.{held, inserted, place_in}
use Rattle.inlinable_string.proofs.inline_string.InlineStringN.insert_str.Goals as goal

pub insert-requires : goal.insert-requires
insert-requires g c =
    let h = held c.self.inside.window c.self.view_is c.self.invariant in
    (search rules, ((c.self.invariant.0, c.self.invariant.1), place_in h c.requires.place))

pub returns-in_err-insert-clause-fits : goal.returns-in_err-insert-clause-fits
returns-in_err-insert-clause-fits g c =
    let h = held c.self.inside.window c.self.view_is c.self.invariant in
    let over = rw (sym (size_of h), c.as_bytes.ensures.value) at c.in_err-insert.ensures.fits in
    search (rules, over)

pub invariant_of-self : goal.invariant_of-self
invariant_of-self g c = rw c.in_err-insert.ensures.err c.self.invariant

pub invariant_of-self-2 : goal.invariant_of-self-2
invariant_of-self-2 g c =
    let h = held c.self.inside.window c.self.view_is c.self.invariant in
    let text = rw c.as_bytes.ensures.value at c.in_ok-insert.ensures.text in
    let new = inserted h (holds_chars c.utf8.string) c.requires.place text in
    (c.in_ok-insert.ensures.inside.0, c.in_ok-insert.ensures.inside.1, new.0)

pub returns : goal.returns
returns g c =
    let h = held c.self.inside.window c.self.view_is c.self.invariant in
    let text = rw c.as_bytes.ensures.value at c.in_ok-insert.ensures.text in
    let new = inserted h (holds_chars c.utf8.string) c.requires.place text in
    record {
      fits = omega (arith, size_of h, c.in_ok-insert.ensures.fits);
      ok = new.1;
      ascii = λ a. ascii-spliced_str _ a new.1;
      len = size-spliced_str c.utf8.string new.1;
      err = tt;
      within = place_within _ _ c.requires.place;
      behind = place_behind_str c.utf8.string new.1;
    }
