use Rattle.std.proofs.Common.{rules, ◌≡◌, ◌/◌, [], ap, get_or, length, subst, sym, ◌∙◌}
use Rattle.std.specs.Simd.{first_chunks}
use Rattle.std.specs.Str.Parse.{AllDigits}
use Rattle.script_language.proofs.HexTexts.{AreBytesTo, bytes_to_next, hex_text-from_bytes, pair_at}
use Rattle.script_language.proofs.line.bytes_from_digits.Goals as goal

pub returns-in_err-bytes-clause-none : goal.returns-in_err-bytes-clause-none
returns-in_err-bytes-clause-none c =
    let digits = c.args.digits.now in
    let n = length digits / 2 in
    let i = c.loop-index.index in
    let pairs : c.as_chunks.result.0.now ≡ first_chunks 2 n digits = search rules in
    rw c.from_residual.ensures (λ bytes text.
    c.in_err-bytes.ensures (subst (λ l. AllDigits 16 (get_or l i [])) (sym pairs)
    (pair_at digits n i text.hexadecimal)))

pub loop-index-preserved : goal.loop-index-preserved
loop-index-preserved c =
    let pair = c.in_ok-bytes.ensures in
    bytes_to_next _ _ _ _ c.loop-index-test.true c.loop-index.invariant pair.0 pair.1

pub returns-clause-some : goal.returns-clause-some
returns-clause-some c =
    let digits = c.args.digits.now in
    let n = length digits / 2 in
    let i = c.loop-index.index in
    let bytes = c.loop-index.bytes in
    let pairs : c.as_chunks.result.0.now ≡ first_chunks 2 n digits = search rules in
    let size : length (first_chunks 2 n digits) ≡ n = ap length (sym pairs) ∙ search rules in
    let done = subst (λ l. AreBytesTo l bytes i) pairs c.loop-index.invariant in
    hex_text-from_bytes digits bytes n i (search rules) size (search rules) done
