use Rattle.std.proofs.Common.{ℕ, List, map, Option, Some, None}
use Rattle.std.specs.Prelude.{IfSome}
use Rattle.std.specs.Map.{keys_of}
use Rattle.inline_uses.specs.Index.{IsSpot, ids_in, index_of}
use Rattle.inline_uses.specs.Symbols.{IsGap, text_at}
use Rattle.inline_uses.specs.TextMap.{AreMapped, Entries, IsMissing}
use Rattle.inline_uses.specs.declared.index.Index.{Index}
use Rattle.inline_uses.specs.declared.index.Spot.{Spot}
use Rattle.inline_uses.proofs.Mapped.{missing}
use Rattle.inline_uses.proofs.text_map.end_for.Goals as goal

goes_at : {V : Type 0} (entries : Entries V) (order : Index) (key : List ℕ)
    → AreMapped entries order → (result : Option Spot) → IfSome result (IsSpot order)
    → IfSome result (λ spot. IsGap (map (text_at (keys_of entries)) (ids_in order)) key
    (index_of order spot)) → IfSome result (IsMissing entries order key)
goes_at entries order key mapped None within gap = tt
goes_at entries order key mapped (Some spot) within gap =
    let none = missing entries order mapped key (index_of order spot) gap in
    record { within = within; gap = gap; none = none.0; put = none.2 }

pub returns : goal.returns
returns g c = goes_at _ c.args.order.now c.args.key.now c.requires.mapped
    c.end_for.result c.end_for.ensures.spot c.end_for.ensures.gap
