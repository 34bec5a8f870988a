use Rattle.std.proofs.Common.{◌∙◌, sym}
use Rattle.std.proofs.UnicodeAscii.{is_alphabetic_ascii}
use Rattle.std.proofs.lemmas.Bool.{ltb-true}
use Rattle.inline_uses.proofs.Letters.{long_range_is_letters}
use Rattle.inline_uses.proofs.tokens.letters.is_letter.Goals as goal

pub returns-then-is_ascii : goal.returns-then-is_ascii
returns-then-is_ascii c =
    let low = ltb-true c.args.ch 128 (sym c.is_ascii.ensures ∙ c.if-is_ascii.true) in
    c.is_ascii_alphabetic.ensures.value ∙ is_alphabetic_ascii c.args.ch low

pub returns-then-is_in_long_range : goal.returns-then-is_in_long_range
returns-then-is_in_long_range c =
    let ranges = sym c.is_in_long_range.ensures ∙ c.if-is_in_long_range.true in
    c.if-is_in_long_range.true ∙ sym (long_range_is_letters c.args.ch ranges)
