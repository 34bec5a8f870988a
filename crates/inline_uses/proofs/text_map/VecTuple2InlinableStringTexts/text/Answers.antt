use Rattle.inline_uses.proofs.Names.{InlinableStringN, List, ap, arith, bytes_at, common_steps, entry_of, map, map-map, sym, text_at, ℕ, ◌∙◌, ◌≡◌}
use Rattle.inline_uses.proofs.text_map.VecTuple2InlinableStringTexts.text.Goals as goal

pub returns-in-Some : goal.returns-in-Some
returns-in-Some g c =
    let items = c.args.self.now.items in
    let by_item : c.as_str.result.now
    ≡ text_at (map (λ (e : InlinableStringN 30 × g.row.V.Denot). bytes_at e.0) items)
    c.args.id = grind (arith, common_steps) in
    by_item ∙ ap (λ ts. text_at ts c.args.id) (sym (map-map (λ (e : List ℕ × g.row.V.Denot). e.0)
    entry_of items))
