use Rattle.inlinable_string.proofs.Common.{◌≡◌, ◌+◌, arith, ap, drop, encode_utf8, ◌∙◌, length, length-append, length-drop, IsCharBoundary-from_take, length-encode, len_utf8_bounds}
use Rattle.std.proofs.lemmas.Str.{IsUtf8-nil}
use Rattle.inlinable_string.proofs.inline_string.retained.first_char.Goals as goal

pub char_at-requires-clause-place : goal.char_at-requires-clause-place
char_at-requires-clause-place c =
    IsCharBoundary-from_take _ 0 c.from_utf8_unchecked.utf8 (omega arith) IsUtf8-nil

pub returns-clause-some : goal.returns-clause-some
returns-clause-some c =
    let text = c.from_utf8_unchecked.result.now in
    let ch = c.char_at.result.0 in
    let whole : length text ≡ length (encode_utf8 ch) + length (drop c.char_at.result.1 text) =
    ap length c.char_at.ensures.bytes ∙ length-append (encode_utf8 ch) _ in
    omega (
      arith,
      whole,
      length-drop c.char_at.result.1 text,
      c.char_at.ensures.within,
      length-encode c.char_at.result.0,
      len_utf8_bounds c.char_at.result.0,
    )
