-- What the prover unfolds to compute a row.
use Rattle.std.specs.Prelude.{⊤}
use Rattle.std.specs.Fmt.{digits}
use lib.Utf8.{encode}

unfoldable pub on_literals : ⊤
unfolding digits encode
on_literals = tt
