use Rattle.inlinable_string.proofs.Common.{◌≡◌, sym, bytes_of}
use Rattle.inlinable_string.proofs.Text.{same_bytes}
use Rattle.inlinable_string.proofs.laws.json.json_gives_the_text_back.Goals as goal

pub returns : goal.returns
returns c value t u scalars first second =
    let bytes : bytes_of t ≡ bytes_of u = cc in
    sym (same_bytes t u scalars bytes)
