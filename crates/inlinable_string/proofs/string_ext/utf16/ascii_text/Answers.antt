use Rattle.inlinable_string.proofs.Common.{◌≡◌, length, sym, ap, ◌∙◌, subst, arith, IsUtf8, chars, IsUtf8-from_ascii, chars-IsAscii}
use Rattle.inlinable_string.proofs.Units.{filled, lossy_ascii}
use Rattle.inlinable_string.proofs.string_ext.utf16.ascii_text.Goals as goal

pub from_utf8_unchecked-requires : goal.from_utf8_unchecked-requires
from_utf8_unchecked-requires c =
    let len : c.in_ok-bytes.bytes.len ≡ length c.args.units.now =
    omega (arith, c.in_ok-bytes.ensures.len) in
    subst IsUtf8 (sym (filled _ _ _ _ c.write_ascii.ensures len)) (IsUtf8-from_ascii _ c.requires)

pub returns : goal.returns
returns c =
    let v = c.args.units.now in
    let len : c.in_ok-bytes.bytes.len ≡ length c.args.units.now =
    omega (arith, c.in_ok-bytes.ensures.len) in
    ap (λ bytes. chars bytes.items) c.from_utf8_unchecked.ensures.value
    ∙ ap chars (filled _ _ v _ c.write_ascii.ensures len)
    ∙ chars-IsAscii v c.requires ∙ sym (lossy_ascii v c.requires)
