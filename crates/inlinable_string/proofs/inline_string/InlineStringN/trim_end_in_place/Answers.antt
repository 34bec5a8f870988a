use Rattle.inlinable_string.proofs.Common.{sym, ap, ◌∙◌, take, rules}
use Rattle.std.specs.Str.{trim_end}
use Rattle.inlinable_string.proofs.Cut.{place_of_taken}
use Rattle.inlinable_string.proofs.Parts.{front_bytes}
use Rattle.inlinable_string.proofs.Trimmed.{bytes-left, text-left}
use Rattle.inlinable_string.proofs.inline_string.InlineStringN.trim_end_in_place.Goals as goal

pub truncate-requires : goal.truncate-requires
truncate-requires g c =
    let rest = c.trim_end-end.ensures.value in (
      search rules,
      place_of_taken _ _ c.as_str.utf8 c.as_str.ensures.value _ rest.0 c.trim_end-end.utf8
          rest.1,
    )

pub returns : goal.returns
returns g c =
    let s = c.as_str.ensures.value in
    let rest = c.trim_end-end.ensures.value in
    let bytes = front_bytes c.truncate.ensures.text.1 ∙ ap (take _) (sym s)
    ∙ ap (λ n. take n c.as_str.result.now) rest.4 ∙ sym rest.1 in
    record {
      text = text-left _ _ trim_end s c.trim_end-end.utf8 bytes c.trim_end-end.ensures.trim;
      bytes = bytes-left _ _ trim_end s c.trim_end-end.utf8 bytes c.trim_end-end.ensures.trim;
      bound = search rules;
    }
