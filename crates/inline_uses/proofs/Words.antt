-- Where the characters that pass a test end: before the first that passes another, its opposite.
use Rattle.std.proofs.Common.{◌≡◌, ℕ, List, [], ◌∷◌, ◌++◌, Bool, true, false, not, refl, sym, ap, ◌∙◌, append-nil}
use Rattle.std.specs.Char.{encode_utf8}
use Rattle.std.specs.List.{take_while}
use Rattle.std.specs.Str.{NonePass, NoCharPasses, chars, IsUtf8}
use Rattle.std.proofs.lemmas.List.Sums.{take_while-cons}
use Rattle.std.proofs.lemmas.Str.{chars_from_encodes, chars_past_char, chars-append}

pub twice : (b : Bool) → b ≡ not (not b)
twice true = refl
twice false = refl

-- characters that pass are taken before the rest
passed : (t stop : ℕ → Bool) → ((d : ℕ) → t d ≡ not (stop d)) → (word rest : List ℕ)
    → NonePass stop word → take_while t (word ++ rest) ≡ word ++ take_while t rest
passed t stop opposite [] rest none = refl
passed t stop opposite (d ∷ word) rest none =
    take_while-cons t d (word ++ rest)
    ∙ rw (opposite d ∙ ap not none.0) (ap (λ w. d ∷ w) (passed t stop opposite word rest none.1))

-- a text of which no character fails is all that is taken
pub whole_word : (t stop : ℕ → Bool) → ((d : ℕ) → t d ≡ not (stop d)) → (s : List ℕ) → IsUtf8 s
    → NoCharPasses stop s → chars s ≡ take_while t (chars s)
whole_word t stop opposite s utf8 (cs, is, none) =
    let e : chars s ≡ cs = sym (chars_from_encodes cs s utf8 is) in
    e ∙ sym (rw append-nil at (passed t stop opposite cs [] none)) ∙ ap (take_while t) (sym e)

-- the front of a text up to a character that fails, where none before it does, is what is taken
pub front_word : (t stop : ℕ → Bool) → ((d : ℕ) → t d ≡ not (stop d))
    → (front back rest : List ℕ) (c : ℕ) → IsUtf8 front → IsUtf8 back → NoCharPasses stop front
    → stop c ≡ true → back ≡ encode_utf8 c ++ rest
    → chars front ≡ take_while t (chars (front ++ back))
front_word t stop opposite front back rest c utf8 utf8_back (cs, is, none) stops split =
    let e : chars front ≡ cs = sym (chars_from_encodes cs front utf8 is) in
    let whole : chars (front ++ back) ≡ cs ++ c ∷ chars rest =
    rw (chars-append front back utf8, e, chars_past_char back rest c utf8_back split) refl in
    let taken = passed t stop opposite cs (c ∷ chars rest) none
    ∙ rw (take_while-cons, opposite c ∙ ap not stops) (append-nil cs) in
    e ∙ sym taken ∙ ap (take_while t) (sym whole)
