use Rattle.std.proofs.Common.{◌≡◌, [], ◌∷◌, refl, ap, arith}
use Rattle.std.proofs.UnicodeAscii.{unicode_tables}
use Rattle.std.specs.List.{take_while}
use Rattle.inlinable_string.specs.Text.{size}
use Rattle.inline_uses.specs.declared.tokens.Kind.TheVariants.{Word}
use Rattle.inline_uses.specs.Tokens.{continues}
use Rattle.inline_uses.proofs.worked.sources_have_faults.Goals as goal
use lib.Utf8.{encode}

two : size (233 ∷ []) ≡ 2
unfolding encode
two = refl

is_word : take_while (continues Word) (233 ∷ []) ≡ 233 ∷ []
unfolding unicode_tables
is_word = refl

pub returns-clause-word : goal.returns-clause-word
returns-clause-word c = (refl, omega (arith, ap size is_word, two))

pub returns-clause-text : goal.returns-clause-text
returns-clause-text c = λ long. omega (arith, long, two)

pub returns-clause-escape : goal.returns-clause-escape
unfolding encode
returns-clause-escape c = (refl, (233, [], refl, refl))
