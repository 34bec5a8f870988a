use Rattle.std.proofs.Common.{rules, ◌≡◌, ◌++◌, codes, decimal}
use Rattle.std.proofs.lemmas.Result.{on_ok_weaker}
use Rattle.inlinable_string.specs.Text.{bytes_of, size}
use Rattle.script_language.specs.Output.{labelled_line, storage_name}
use Rattle.script_language.proofs.Fronts.{of_any_error, of_error}
use Rattle.script_language.proofs.Gathered.{gathered_more, front_after_gathered, front_of_longer}
use Rattle.script_language.proofs.output.print_state.Goals as goal

pub returns-in_err-print_line-clause-part : goal.returns-in_err-print_line-clause-part
returns-in_err-print_line-clause-part g c =
    let s = g.S.StringExt.state c.args.text.now in
    let text : c.as_bytes.result.now ≡ bytes_of s.text = search rules in
    let first = labelled_line (codes "text ") (bytes_of s.text) in
    let second = labelled_line (codes "length ") (decimal (size s.text)) in
    let third = labelled_line (codes "storage ") (storage_name s.storage) in
    let front = front_of_longer _ first second (rw text at c.in_err-print_line.ensures.part) in
    of_any_error _ _ (front_of_longer _ (first ++ second) third front)

pub returns-in_err-print_line-2-clause-part : goal.returns-in_err-print_line-2-clause-part
returns-in_err-print_line-2-clause-part g c =
    let s = g.S.StringExt.state c.args.text.now in
    let text : c.as_bytes.result.now ≡ bytes_of s.text = search rules in
    let length : c.decimal_digits-digits.result.now ≡ decimal (size s.text) = search rules in
    let first = labelled_line (codes "text ") (bytes_of s.text) in
    let second = labelled_line (codes "length ") (decimal (size s.text)) in
    let third = labelled_line (codes "storage ") (storage_name s.storage) in
    let front = front_after_gathered {bytes = first} second
    (rw text at c.in_ok-print_line.ensures.gathered)
    (rw length at c.in_err-print_line-2.ensures.part) in
    of_any_error _ _ (front_of_longer _ (first ++ second) third front)

pub returns-clause-gathered : goal.returns-clause-gathered
returns-clause-gathered g c =
    let s = g.S.StringExt.state c.args.text.now in
    let text : c.as_bytes.result.now ≡ bytes_of s.text = search rules in
    let length : c.decimal_digits-digits.result.now ≡ decimal (size s.text) = search rules in
    let storage : c.storage_name.result.now ≡ storage_name s.storage = search rules in
    let both = gathered_more (rw text at c.in_ok-print_line.ensures.gathered)
    (rw length at c.in_ok-print_line-2.ensures.gathered) in
    on_ok_weaker c.print_line-3.result (gathered_more both)
    (rw storage at c.print_line-3.ensures.gathered)

pub returns-clause-part : goal.returns-clause-part
returns-clause-part g c =
    let s = g.S.StringExt.state c.args.text.now in
    let text : c.as_bytes.result.now ≡ bytes_of s.text = search rules in
    let length : c.decimal_digits-digits.result.now ≡ decimal (size s.text) = search rules in
    let storage : c.storage_name.result.now ≡ storage_name s.storage = search rules in
    let both = gathered_more (rw text at c.in_ok-print_line.ensures.gathered)
    (rw length at c.in_ok-print_line-2.ensures.gathered) in
    of_error _ _ _ (front_after_gathered _ both) (rw storage at c.print_line-3.ensures.part)
