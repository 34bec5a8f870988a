use Rattle.inlinable_string.proofs.Common.{arith, rules, sym}
use Rattle.inlinable_string.proofs.Text.{holds_chars, size_of, place_within}
use Rattle.inlinable_string.proofs.Window.{held, place_in}
use Rattle.inlinable_string.proofs.Ranges.{ascii-replaced, cut_then_put, place_past_str, range-bytes, range-chars, range-utf8, size-replaced_str}
use Rattle.inlinable_string.proofs.inline_string.InlineStringN.replace_range.Goals as goal

pub replace-requires : goal.replace-requires
replace-requires g c =
    let h = held c.self.inside.window c.self.view_is c.self.invariant in
    let place = place_in h c.requires.end in
    (search rules, ((c.self.invariant.0, c.self.invariant.1), (c.requires.order, place)))

pub returns-in_err-replace-clause-fits : goal.returns-in_err-replace-clause-fits
returns-in_err-replace-clause-fits g c =
    let h = held c.self.inside.window c.self.view_is c.self.invariant in
    let over = rw (sym (size_of h), c.as_bytes.ensures.value) at c.in_err-replace.ensures.fits in
    search (rules, over)

pub invariant_of-self : goal.invariant_of-self
invariant_of-self g c = rw c.in_err-replace.ensures.err c.self.invariant

pub invariant_of-self-2 : goal.invariant_of-self-2
invariant_of-self-2 g c =
    let h = held c.self.inside.window c.self.view_is c.self.invariant in
    let text = rw c.as_bytes.ensures.value at c.in_ok-replace.ensures.text in
    let new = cut_then_put _ _ h c.requires.start text in (
      c.in_ok-replace.ensures.inside.0,
      c.in_ok-replace.ensures.inside.1,
      ∣ range-utf8 h (holds_chars c.utf8.replace_with) c.requires.start c.requires.end
          c.requires.order new ∣₁,
    )

pub returns : goal.returns
returns g c =
    let h = held c.self.inside.window c.self.view_is c.self.invariant in
    let within = place_within _ _ c.requires.end in
    let text = rw c.as_bytes.ensures.value at c.in_ok-replace.ensures.text in
    let new = cut_then_put _ _ h c.requires.start text in
    let u = holds_chars c.utf8.replace_with in
    let ok = range-chars h u c.requires.start c.requires.end c.requires.order new in
    record {
      fits = omega (arith, c.in_ok-replace.ensures.fits, within, size_of h);
      ok = ok;
      bytes = range-bytes h u c.requires.start c.requires.end c.requires.order new;
      ascii = λ a. ascii-replaced _ a ok;
      len = size-replaced_str c.utf8.replace_with ok;
      err = tt;
      within = within;
      behind = place_past_str c.utf8.replace_with ok;
    }
