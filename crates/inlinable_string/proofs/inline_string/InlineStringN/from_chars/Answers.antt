use Rattle.inlinable_string.proofs.Common.{ap, arith, size}
use Rattle.inlinable_string.proofs.Extended.{refused}
use Rattle.inlinable_string.proofs.inline_string.InlineStringN.from_chars.Goals as goal

pub returns-in_err-extend_chars-clause-err : goal.returns-in_err-extend_chars-clause-err
returns-in_err-extend_chars-clause-err g c =
    let run = c.in_err-extend_chars.ensures.err in
    refused c.from_residual.result
    (run.0, run.1, omega (arith, run.2.4, ap size c.new-made.ensures))

pub returns-clause-text : goal.returns-clause-text
returns-clause-text g c =
    let run = c.in_ok-extend_chars.ensures.ok in
    (run.0, run.1, run.2, rw c.new-made.ensures at run.3)
