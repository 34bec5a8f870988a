-- The tokens of a source. Texts are lists of characters.
use Rattle.std.specs.Prelude.{◌≡◌, ℕ, ◌+◌, ◌<◌, ◌⊎◌, List, [], ◌∷◌, ◌++◌, drop, Bool, true, false, not, ◌||◌, ◌==◌, Option, Some, None, if◌then◌else◌, slice_get}
use Rattle.std.specs.Char.{is_ascii_alphanumeric, is_whitespace}
use Rattle.std.specs.Char.Unicode.Alphabetic.{is_alphabetic}
use Rattle.std.specs.Char.Unicode.Numeric.{is_numeric}
use Rattle.std.specs.Int.{is_in_range}
use Rattle.std.specs.List.{count_by, take_while}
use Rattle.inlinable_string.specs.Text.{size}
use Rattle.inline_uses.specs.declared.tokens.Fault.{Fault}
use Rattle.inline_uses.specs.declared.tokens.Fault.TheVariants.{TooLong, Unterminated, BadEscape}
use Rattle.inline_uses.specs.declared.tokens.Kind.{Kind}
use Rattle.inline_uses.specs.declared.tokens.Kind.TheVariants.{Space, Word, Number, LineComment, BlockComment, Text, Mark}

-- the kind of a token that begins with a slash, by the character after it
abbrev pub slash_kind : Option ℕ → Kind
slash_kind None = Mark 47
slash_kind (Some c) = if c == 47 then LineComment else (if c == 42 then BlockComment else Mark 47)

-- the kind of a token that begins with this character, by the one after it
abbrev pub kind_of : ℕ → Option ℕ → Kind
kind_of c next =
    if c == 34 then Text
    else (if c == 47 then slash_kind next
    else (if is_in_range 48 57 c then Number
    else (if c == 95 || is_alphabetic c then Word
    else (if is_whitespace c then Space
    else Mark c))))

-- the kind of the token that a source begins with, or none where the source is empty
abbrev pub kind_at : List ℕ → Option Kind
kind_at [] = None
kind_at (c ∷ source) = Some (kind_of c (slice_get source 0))

-- whether a token of this kind goes on with the character
abbrev pub continues : Kind → ℕ → Bool
continues Space c = is_whitespace c
continues Word c = c == 95 || (is_alphabetic c || is_numeric c)
continues Number c = c == 95 || is_ascii_alphanumeric c
continues LineComment c = not (c == 10)
continues _ c = false

-- the character that this one means after a backslash, if it may be there
abbrev pub escape_of : ℕ → Option ℕ
escape_of c =
    if c == 34 || (c == 39 || c == 92) then Some c
    else (if c == 48 then Some 0
    else (if c == 110 then Some 10
    else (if c == 114 then Some 13
    else (if c == 116 then Some 9
    else None))))

-- the character before the text, where both are there
abbrev pub with_char : Option ℕ → Option (List ℕ) → Option (List ℕ)
with_char (Some c) (Some text) = Some (c ∷ text)
with_char _ _ = None

-- the same, after a backslash where `escaped`
abbrev pub unescaped_from : Bool → List ℕ → Option (List ℕ)
unescaped_from escaped [] = if escaped then None else Some []
unescaped_from true (c ∷ cs) = with_char (escape_of c) (unescaped_from false cs)
unescaped_from false (c ∷ cs) =
    if c == 34 then None
    else (if c == 92 then unescaped_from true cs
    else with_char (Some c) (unescaped_from false cs))

-- the text that is written so between quotes, or none where a quote or an escape is wrong
abbrev pub unescaped : List ℕ → Option (List ℕ)
unescaped = unescaped_from false

-- `*/` is nowhere in the text
abbrev pub HasNoClose : List ℕ → Type 0
HasNoClose text = (front back : List ℕ) → ¬ (text ≡ front ++ 42 ∷ 47 ∷ back)

-- a token of this kind has this text of a source that begins with it, and this is in the buffer
abbrev pub IsToken : Kind → List ℕ → List ℕ → List ℕ → Type 0
IsToken Word source text word = (text ≡ take_while (continues Word) source) × (word ≡ text)
IsToken Number source text word = (text ≡ take_while (continues Number) source) × (word ≡ text)
IsToken Text source text word = (inside : List ℕ)
    × (text ≡ 34 ∷ inside ++ 34 ∷ []) × (unescaped inside ≡ Some word)
IsToken BlockComment source text word = (inside : List ℕ)
    × (text ≡ 47 ∷ 42 ∷ inside ++ 42 ∷ 47 ∷ []) × HasNoClose (inside ++ 42 ∷ []) × (word ≡ [])
IsToken (Mark c) source text word = (text ≡ c ∷ []) × (word ≡ [])
IsToken kind source text word = (text ≡ take_while (continues kind) source) × (word ≡ [])

-- why a text stops that goes on so
abbrev pub IsStop : Fault → List ℕ → Type 0
IsStop TooLong rest = ⊥
IsStop Unterminated rest = (rest ≡ []) ⊎ (rest ≡ 92 ∷ [])
IsStop (BadEscape left) rest = (left ≡ size rest) × ((c : ℕ) × (back : List ℕ)
    × (rest ≡ 92 ∷ c ∷ back) × (escape_of c ≡ None))

-- the same of a text with this meaning so far, where N bytes may be had
abbrev pub StopsAt : ℕ → Fault → List ℕ → List ℕ → Type 0
StopsAt N TooLong word rest = N < size word
StopsAt N fault word rest = IsStop fault rest

-- why there is no text after a quote
abbrev pub IsTextFault : ℕ → Fault → List ℕ → Type 0
IsTextFault N fault source = (inside word rest : List ℕ) × (source ≡ inside ++ rest)
    × (unescaped inside ≡ Some word) × StopsAt N fault word rest

-- why a source has no token of this kind that it begins with
abbrev pub Fails : ℕ → Kind → List ℕ → Fault → Type 0
Fails N Word source fault =
    (fault ≡ TooLong) × (N < size (take_while (continues Word) source))
Fails N Number source fault =
    (fault ≡ TooLong) × (N < size (take_while (continues Number) source))
Fails N Text source fault = IsTextFault N fault (drop 1 source)
Fails N BlockComment source fault = (fault ≡ Unterminated) × HasNoClose (drop 2 source)
Fails N _ source fault = ⊥

-- whether tokens of this kind are no white space and no comment
abbrev pub is_solid_kind : Kind → Bool
is_solid_kind Space = false
is_solid_kind LineComment = false
is_solid_kind BlockComment = false
is_solid_kind _ = true

abbrev pub is_solid : Kind × List ℕ → Bool
is_solid token = is_solid_kind token.0

-- the source is the texts of these tokens in their order, and nothing else
abbrev pub AreTokens : List ℕ → List (Kind × List ℕ) → Type 0
AreTokens source [] = source ≡ []
AreTokens source (token ∷ tokens) = (word rest : List ℕ) × (source ≡ token.1 ++ rest)
    × (kind_at source ≡ Some token.0) × IsToken token.0 source token.1 word
    × AreTokens rest tokens

abbrev pub newlines : List ℕ → ℕ
newlines text = count_by (λ c. c == 10) text

-- the column after a text that begins in this one, both counted from 1
abbrev pub column_after : ℕ → List ℕ → ℕ
column_after column [] = column
column_after column (c ∷ text) = column_after (if c == 10 then 1 else column + 1) text
