use Rattle.std.proofs.Common.{◌≡◌, ◌<◌, ◌∙◌, ap, sym, arith, length, get_or}
use Rattle.std.proofs.lemmas.List.{get_or-take}
use Rattle.std.proofs.lemmas.Str.{lead_after_ascii}
use Rattle.script_language.proofs.cut.cut_front_at.Goals as goal

pub range_from-requires : goal.range_from-requires
range_from-requires c =
    let text = c.args.text.now in
    let at = c.in_ok-at.at in
    let found = c.in_ok-at.ensures in
    let same : get_or text at 0 ≡ c.args.mark =
    ap (λ l. get_or l at 0) (sym c.requires.front)
    ∙ get_or-take (length text) c.args.bytes.now at 0 found.before ∙ found.there in
    let low : get_or text at 0 < 128 = omega (arith, same, c.requires.ascii) in
    λ _. (omega arith, lead_after_ascii text at c.utf8.text low)
