use Rattle.inlinable_string.proofs.Common.{◌≡◌, sym, ap, ◌∙◌, subst, arith, IsUtf8, chars, size, lossy_utf16}
use Rattle.inlinable_string.proofs.Units.{filled, lossy_utf8, lossy_read}
use Rattle.inlinable_string.proofs.string_ext.utf16.text_of_len.Goals as goal

pub from_utf8_unchecked-requires : goal.from_utf8_unchecked-requires
from_utf8_unchecked-requires c =
    let v = c.args.units.now in
    let len : c.in_ok-bytes.bytes.len ≡ size (lossy_utf16 v) =
    omega (arith, c.in_ok-bytes.ensures.len, c.requires) in
    subst IsUtf8 (sym (filled _ _ _ _ c.write_units.ensures len))
    (lossy_utf8 v (λ i. let fits = c.type_inv.units i in omega arith))

pub returns : goal.returns
returns c =
    let v = c.args.units.now in
    let len : c.in_ok-bytes.bytes.len ≡ size (lossy_utf16 v) =
    omega (arith, c.in_ok-bytes.ensures.len, c.requires) in
    ap (λ bytes. chars bytes.items) c.from_utf8_unchecked.ensures.value
    ∙ ap chars (filled _ _ _ _ c.write_units.ensures len)
    ∙ lossy_read v (λ i. let fits = c.type_inv.units i in omega arith)
