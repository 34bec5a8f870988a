-- Lines, their words and what follows them.
use Rattle.std.proofs.Common.{◌≡◌, refl, sym, subst, ◌∙◌, ℕ, List, ◌∷◌, ◌++◌, inl, inr}
use Rattle.std.specs.Str.Iter.{LacksByte}
use Rattle.inlinable_string.specs.declared.run.Command.{Command}
use Rattle.script_language.specs.Line.{Arguments, nothing, character, text, number, number_and_character, number_and_text, bytes, arguments_of, IsCharText, IsFirstCut, IsLine, IsNumberText, IsTail, space, word_of}
use Rattle.script_language.proofs.Cuts.{digits_lack_space, one_split, same_cut, StartsApart}
use Rattle.script_language.proofs.Words.{form, word_lacks_space}

-- a line ends with its word, or goes on with a space
pub tail_forms : (args : Arguments) (tail : List ℕ) → IsTail args tail → StartsApart tail
tail_forms nothing tail is = inl is
tail_forms (character c) tail is = inr (is.0, is.1)
tail_forms (text t) tail is = inr (t, is)
tail_forms (number n) tail is = inr (is.0, is.1)
tail_forms (number_and_character n c) tail is = inr (_, is.2)
tail_forms (number_and_text n t) tail is = inr (_, is.1)
tail_forms (bytes bs) tail is = inr (is.0, is.1)

-- a line with this word and this tail is that of commands with this word alone
pub parts_of_line : (word tail : List ℕ) (command : Command) → LacksByte space word
    → StartsApart tail → IsLine (word ++ tail) command
    → (word ≡ word_of command) × IsTail (arguments_of command) tail
parts_of_line word tail command lacks apart (rest, is, ends) =
    let parts = one_split word (word_of command) tail rest lacks (word_lacks_space command) apart
    (tail_forms (arguments_of command) rest ends) is in
    (parts.0, subst (IsTail (arguments_of command)) (sym parts.1) ends)

-- a line with a space is the word, the space and what follows it
pub line_with_word : (line word rest : List ℕ) (command : Command)
    → IsFirstCut space line word rest → IsLine line command
    → (word ≡ word_of command) × IsTail (arguments_of command) (space ∷ rest)
line_with_word line word rest command cut asked =
    parts_of_line word (space ∷ rest) command cut.first (inr (rest, refl))
    (subst (λ l. IsLine l command) cut.joined asked)

-- a number, a space and more are cut at that space
pub same_parts : (digits digits' behind behind' : List ℕ) (m n : ℕ) → IsNumberText digits m
    → IsNumberText digits' n → digits ++ space ∷ behind ≡ digits' ++ space ∷ behind'
    → (digits ≡ digits') × (behind ≡ behind')
same_parts digits digits' behind behind' m n written other =
    same_cut digits digits' behind behind' (digits_lack_space digits written.numeral.1)
    (digits_lack_space digits' other.numeral.1)

-- arguments whose number is followed by no character
pub no_character_behind : (rest digits behind : List ℕ) (place : ℕ)
    → rest ≡ digits ++ space ∷ behind → IsNumberText digits place
    → ((c : ℕ) → ¬ (IsCharText behind c)) → (args : Arguments)
    → form args ≡ number_and_character 0 0 → ¬ (IsTail args (space ∷ rest))
no_character_behind rest digits behind place parts written none (number_and_character n c) is
    (digits', behind', at, written', char) =
    let cuts = same_parts digits digits' behind behind' place n written written'
    (sym parts ∙ search at) in
    none c (subst (λ b. IsCharText b c) (sym cuts.1) char)
no_character_behind rest digits behind place parts written none args is tail = cc
