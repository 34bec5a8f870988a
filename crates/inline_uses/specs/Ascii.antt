-- The ASCII characters with which a token goes on, each of which is one byte.
use Rattle.std.specs.Prelude.{ℕ, Bool, ◌&&◌, nat_lt}
use Rattle.inline_uses.specs.declared.tokens.Kind.{Kind}
use Rattle.inline_uses.specs.declared.tokens.Kind.TheVariants.{Space, Word, Number}
use Rattle.inline_uses.specs.Tokens.{continues}

-- whether the byte is an ASCII character with which a token of this kind goes on
abbrev pub goes_on_in_ascii : Kind → ℕ → Bool
goes_on_in_ascii kind b = nat_lt b 128 && continues kind b

-- the flag of these characters in the table, in which no line comments are
abbrev pub class_of : Kind → ℕ
class_of Word = 1
class_of Number = 1
class_of Space = 2
class_of _ = 0
