use Rattle.std.proofs.Common.{◌≡◌, ◌<◌, length, drop, get_or, sym, ap, ◌∙◌, arith, length-drop, get_or-drop, add-zero}
use Rattle.std.specs.Str.{chars}
use Rattle.std.proofs.lemmas.Bool.{ltb-true}
use Rattle.std.proofs.lemmas.List.{get_or_default}
use Rattle.inline_uses.specs.Tokens.{continues}
use Rattle.inline_uses.proofs.Ascii.{cut_after, ends_here, ends_later}
use Rattle.inline_uses.proofs.tokens.split_while.Goals as goal

pub split_at-requires : goal.split_at-requires
split_at-requires c =
    cut_after (continues c.args.kind) c.args.source.now c.ascii_len-passed.ensures c.utf8.source

pub returns-in-Some-clause-front : goal.returns-in-Some-clause-front
returns-in-Some-clause-front c =
    let s = c.args.source.now in
    let n = c.ascii_len-passed.result in
    let bytes = c.as_bytes.result.now in
    let item = c.in-Some.ensures.item in
    let left : bytes ≡ drop n s = c.as_bytes.ensures.value ∙ c.split_at.ensures.back in
    let short : n < length s = omega (arith, item.3.0, ap length left, length-drop n s) in
    let byte = item.1 ∙ get_or_default bytes 0 c.in-Some.next.now 0 item.3.0
    ∙ ap (λ l. get_or l 0 0) left ∙ get_or-drop n s 0 0 in
    let low = ltb-true c.in-Some.next.now 128 (sym c.is_ascii.ensures ∙ c.if-is_ascii.true) in
    ap chars c.split_at.ensures.front
    ∙ ends_here (continues c.args.kind) s c.ascii_len-passed.ensures c.utf8.source short
    (rw add-zero at (rw byte at low))

pub returns-in_default-clause-front : goal.returns-in_default-clause-front
returns-in_default-clause-front c =
    ap chars c.split_at-in_default.ensures.front
    ∙ ends_later (continues c.args.kind) c.args.source.now c.ascii_len-passed.ensures _
    (rw c.split_at.ensures.back at c.len_while.ensures.front)
