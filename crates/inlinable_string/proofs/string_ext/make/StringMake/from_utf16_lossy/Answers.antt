use Rattle.std.proofs.Common.{sym}
use Rattle.inlinable_string.proofs.Makers.{utf8_made}
use Rattle.inlinable_string.proofs.string_ext.make.StringMake.from_utf16_lossy.Goals as goal

pub from_utf8_unchecked-requires : goal.from_utf8_unchecked-requires
from_utf8_unchecked-requires g c =
    utf8_made c.in_ok-read.read c.into_bytes.result (sym c.into_bytes.ensures.value)
