-- A text is a list of characters, each given by its number, a Unicode scalar value (the Unicode
-- Standard, section 3.9). Its bytes are its UTF-8, which std defines: `encode_utf8` of a
-- character, `encode_utf8_all` of a list, and back again `chars`.
use Rattle.std.specs.Prelude.{◌≡◌, ℕ, ◌-◌, List, [], ◌∷◌, ◌++◌, length, Option, Some, None, if◌then◌else◌, nat_lt, nat_eq}
use Rattle.std.specs.Char.{encode_utf8}
use Rattle.std.specs.Str.{encode_utf8_all}

-- the UTF-8 of a text
abbrev pub bytes_of : List ℕ → List ℕ
bytes_of t = encode_utf8_all t

-- how many bytes the UTF-8 of a text has
abbrev pub size : List ℕ → ℕ
size t = length (encode_utf8_all t)

-- the text t falls into a and b, and p is the byte offset between them
pub record IsCut (t : List ℕ) (p : ℕ) (a b : List ℕ) : Type 0 where
  pub joined : t ≡ a ++ b
  pub before : size a ≡ p

-- p is a place of the text: the offset of a character's first byte, or the end
abbrev pub IsPlace : List ℕ → ℕ → Type 0
IsPlace t p = (a : List ℕ) × (b : List ℕ) × IsCut t p a b

-- v is the text t with u put in at the place p
pub record IsSplice (t : List ℕ) (p : ℕ) (u v : List ℕ) : Type 0 where
  pub front : List ℕ
  pub back : List ℕ
  pub cut : IsCut t p front back
  pub joined : v ≡ front ++ u ++ back

-- v is the text t without the character c, which begins at the place p
pub record IsRemoval (t : List ℕ) (p c : ℕ) (v : List ℕ) : Type 0 where
  pub front : List ℕ
  pub back : List ℕ
  pub cut : IsCut t p front (c ∷ back)
  pub joined : v ≡ front ++ back

-- the parts of a text, with the character c before the first
abbrev pub with_first : ℕ → Option (List ℕ × List ℕ) → Option (List ℕ × List ℕ)
with_first c None = None
with_first c (Some parts) = Some (c ∷ parts.0, parts.1)

-- the two texts into which p cuts t, or none where p is no place of t
abbrev pub cut : List ℕ → ℕ → Option (List ℕ × List ℕ)
cut [] p = if nat_eq p 0 then Some ([], []) else None
cut (c ∷ t) p =
    if nat_eq p 0 then Some ([], c ∷ t)
    else (if nat_lt p (length (encode_utf8 c)) then None
    else with_first c (cut t (p - length (encode_utf8 c))))
