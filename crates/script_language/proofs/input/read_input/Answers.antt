use Rattle.std.proofs.Common.{◌+◌, arith, length, ◌≡◌, rules, ◌<◌, take, take_all, length-take-le, sym, subst, ap, ◌∙◌}
use Rattle.std.proofs.lemmas.List.{take-append-le}
use Rattle.std.proofs.KnownBytes.{Consumes-whole}
use Rattle.script_language.proofs.Pieces.{input_is_longer}
use Rattle.script_language.specs.declared.input.TheConstants.{MOST_BYTES}
use Rattle.script_language.proofs.input.read_input.Goals as goal

pub returns-clause-whole : goal.returns-clause-whole
returns-clause-whole g c =
    let filled = c.in_ok-length.ensures in
    let room = c.fill.new.room in
    let size = c.in_ok-bytes.bytes.len in
    let full : length room ≡ MOST_BYTES + 1 = search rules in
    let ended = filled.end (omega (arith, full, c.if-length-gt-MOST_BYTES.false)) in
    let kept = take-append-le size room _ (search rules) ∙ take_all size room (search rules) in
    Consumes-whole _ _ _ _ filled.bytes ended
    (c.truncate.ensures.items ∙ ap (take c.in_ok-length.length) kept)

pub returns-then-length-gt-MOST_BYTES-clause-too_long :
    goal.returns-then-length-gt-MOST_BYTES-clause-too_long
returns-then-length-gt-MOST_BYTES-clause-too_long g c is =
    let filled = c.in_ok-length.ensures in
    let room = c.fill.new.room in
    let count = sym (length-take-le c.in_ok-length.length room filled.bound) in
    let more = subst (λ n. MOST_BYTES < n) count c.if-length-gt-MOST_BYTES.true in
    input_is_longer MOST_BYTES _ _ _ filled.bytes more

pub returns-then-length-gt-MOST_BYTES-clause-bound :
    goal.returns-then-length-gt-MOST_BYTES-clause-bound
returns-then-length-gt-MOST_BYTES-clause-bound g c = tt

pub returns-then-length-gt-MOST_BYTES-clause-whole :
    goal.returns-then-length-gt-MOST_BYTES-clause-whole
returns-then-length-gt-MOST_BYTES-clause-whole g c = tt

pub returns-then-length-gt-MOST_BYTES-clause-at_end :
    goal.returns-then-length-gt-MOST_BYTES-clause-at_end
returns-then-length-gt-MOST_BYTES-clause-at_end g c = tt
