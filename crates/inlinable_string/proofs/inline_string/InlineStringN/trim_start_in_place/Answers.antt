use Rattle.inlinable_string.proofs.Common.{rules}
use Rattle.std.specs.Str.{trim_start}
use Rattle.inlinable_string.proofs.Cut.{place_of_rest}
use Rattle.inlinable_string.proofs.Trimmed.{bytes-dropped, bytes-left, text-left}
use Rattle.inlinable_string.proofs.inline_string.InlineStringN.trim_start_in_place.Goals as goal

pub drop_front-requires : goal.drop_front-requires
drop_front-requires g c =
    let rest = c.trim_start.ensures.value in (
      search rules,
      place_of_rest _ _ c.as_str-text.utf8 c.as_str-text.ensures.value _ rest.0
          c.trim_start.utf8 rest.1,
    )

pub returns-clause-text : goal.returns-clause-text
returns-clause-text g c =
    let s = c.as_str-text.ensures.value in
    let rest = c.trim_start.ensures.value in
    text-left _ _ trim_start s c.trim_start.utf8
    (bytes-dropped _ _ rest.0 s rest.1 c.drop_front.ensures.bytes) c.trim_start.ensures.trim

pub returns-clause-bytes : goal.returns-clause-bytes
returns-clause-bytes g c =
    let s = c.as_str-text.ensures.value in
    let rest = c.trim_start.ensures.value in
    bytes-left _ _ trim_start s c.trim_start.utf8
    (bytes-dropped _ _ rest.0 s rest.1 c.drop_front.ensures.bytes) c.trim_start.ensures.trim
