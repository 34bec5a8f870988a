use Rattle.inlinable_string.proofs.Common.{sym, ap, ◌∙◌, arith, units_of}
use Rattle.inlinable_string.proofs.Units.{all_paired, units-lossy}
use Rattle.inlinable_string.proofs.Makers.{utf8_made, text_made}
use Rattle.inlinable_string.proofs.string_ext.make.StringMake.from_utf16.Goals as goal

pub from_utf8_unchecked-requires : goal.from_utf8_unchecked-requires
from_utf8_unchecked-requires g c =
    utf8_made c.in_ok-read.read c.into_bytes.result (sym c.into_bytes.ensures.value)

pub returns-clause-text : goal.returns-clause-text
returns-clause-text g c =
    let v = c.args.v.now in
    let paired =
    all_paired v (λ some. let h = c.paired.ensures.unpaired.1 some in cc (h, c.in_ok-read.was)) in
    let bytes = c.into_bytes in
    let made = text_made _ c.in_ok-read.read bytes.result bytes.ensures.value in
    ap units_of (made c.from_utf8_unchecked.ensures.text ∙ c.in_ok-read.ensures.read)
    ∙ units-lossy v paired (λ i. let fits = c.type_inv.v i in omega arith)
