use Rattle.inline_uses.proofs.Names.{AreMapped, Entries, Err, IfErr, IfOk-weaker, Index, IsGap, IsMissing, IsSpot, List, Ok, Result, Spot, ids_in, index_of, keys_of, map, text_at, ℕ}
use Rattle.inline_uses.proofs.Mapped.{found_entry, missing}
use Rattle.inline_uses.proofs.text_map.search.Goals as goal

pub returns-clause-found : goal.returns-clause-found
returns-clause-found g c = IfOk-weaker c.find.result _ _ (λ id found. (
  found.0,
  found_entry _ c.args.order.now c.requires.mapped c.args.key.now found.0 id found.1 found.2,
)) c.find.ensures.found

goes_at : {V : Type 0} (entries : Entries V) (order : Index) (key : List ℕ)
    → AreMapped entries order → (result : Result ℕ Spot) → IfErr result (IsSpot order)
    → IfErr result (λ spot. IsGap (map (text_at (keys_of entries)) (ids_in order)) key
    (index_of order spot)) → IfErr result (IsMissing entries order key)
goes_at entries order key mapped (Ok id) within gap = tt
goes_at entries order key mapped (Err spot) within gap =
    let none = missing entries order mapped key (index_of order spot) gap in
    record { within = within; gap = gap; none = none.0; put = none.2 }

pub returns-clause-missing : goal.returns-clause-missing
returns-clause-missing g c = goes_at _ c.args.order.now c.args.key.now c.requires.mapped
    c.find.result c.find.ensures.spot c.find.ensures.gap
