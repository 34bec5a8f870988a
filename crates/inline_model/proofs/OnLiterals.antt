-- What the prover unfolds to compute a row.
use Rattle.std.specs.Prelude.{⊤}
use Rattle.std.specs.Str.{chars, is_utf8}
use lib.Utf8.{encode}

unfoldable pub on_literals : ⊤
unfolding chars is_utf8 encode
on_literals = tt
