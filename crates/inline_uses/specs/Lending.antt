-- Maps of which a value is lent.
use Rattle.std.specs.Prelude.{ℕ, List, Option, Result}
use Rattle.std.specs.Borrow.{Fml, LendsIf, LendsIfOk, MutBor}
use denote.RattleType.{RattleType}
use Rattle.inline_uses.specs.TextMap.{Entries, with_value}
use Rattle.inline_uses.specs.contracts.text_map.TextMap.{the_row}

-- the map has what is left of the value under the key that was found, and else stays as it is
abbrev pub LendsValue : (V : RattleType) → MutBor (Entries V.Denot) → List ℕ
    → Option (MutBor V.Denot) → Fml
LendsValue V map key r = LendsIf (the_row V) V map r (with_value map.now key) map.now

-- the same, where a key that had no value was put, and where that failed the map stays as it is
abbrev pub LendsValueIfOk : (V : RattleType) → MutBor (Entries V.Denot) → List ℕ
    → {E : Type 0} → Result (MutBor V.Denot) E → Fml
LendsValueIfOk V map key r = LendsIfOk (the_row V) V map r (with_value map.now key) map.now
