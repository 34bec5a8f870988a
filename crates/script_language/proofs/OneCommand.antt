-- A line asks for one command at most.
use Rattle.std.proofs.Common.{arith, map, ◌≡◌, refl, sym, ap, subst, ◌∙◌, ℕ, List, [], ◌∷◌, ◌++◌, length}
use Rattle.std.proofs.lemmas.Str.{IsUtf8-encode}
use Rattle.std.specs.Simd.{first_chunks}
use Rattle.std.specs.Str.{chars, IsUtf8}
use Rattle.std.specs.Str.Parse.{digits_value}
use Rattle.inlinable_string.proofs.Window.{chars_one}
use Rattle.inlinable_string.specs.declared.run.Command.{Command}
use Rattle.script_language.specs.Line.{Arguments, nothing, character, text, number, number_and_character, number_and_text, bytes, arguments_of, IsCharText, IsHexText, IsLine, IsNumberText, IsTail, space, word_of}
use Rattle.script_language.proofs.Lines.{parts_of_line, same_parts, tail_forms}
use Rattle.script_language.proofs.Words.{form, form_of_word, word_lacks_space}

-- a character's text has that character alone
pub one_character : (bs : List ℕ) (c : ℕ) → IsCharText bs c → chars bs ≡ c ∷ []
one_character bs c char =
    chars_one c bs (subst IsUtf8 (sym char.encoded) (IsUtf8-encode c char.scalar)) char.encoded

-- digits of the same number are written for the same number of bytes, and for these bytes
one_hex_text : (digits bs cs : List ℕ) → IsHexText digits bs → IsHexText digits cs → bs ≡ cs
one_hex_text digits bs cs written other =
    let same : length bs ≡ length cs = omega (arith, written.pairs, other.pairs) in
    written.values
    ∙ ap (λ n. map (digits_value 16) (first_chunks 2 n digits)) same
    ∙ sym other.values

-- a character that is written in two equal texts
same_char : (bs cs : List ℕ) (c d : ℕ) → bs ≡ cs → IsCharText bs c → IsCharText cs d → c ≡ d
same_char bs cs c d same char other =
    search (sym (one_character bs c char) ∙ ap chars same ∙ one_character cs d other)

same_number : (bs cs : List ℕ) (m n : ℕ) → bs ≡ cs → IsNumberText bs m → IsNumberText cs n → m ≡ n
same_number bs cs m n same written other =
    written.value ∙ ap (digits_value 10) same ∙ sym other.value

-- a tail is written for one list of arguments of a form
same_arguments : (tail : List ℕ) (one other : Arguments) → form one ≡ form other
    → IsTail one tail → IsTail other tail → one ≡ other
same_arguments tail nothing nothing is ends too = refl
same_arguments tail (character c) (character d) is (behind, at, char) (behind', at', char') =
    ap character (same_char behind behind' c d (search (sym at ∙ at')) char char')
same_arguments tail (text t) (text u) is at at' = search (sym at ∙ at')
same_arguments tail (number m) (number n) is (digits, at, written) (digits', at', written') =
    ap number (same_number digits digits' m n (search (sym at ∙ at')) written written')
same_arguments tail (number_and_character m c) (number_and_character n d) is
    (digits, behind, at, written, char) (digits', behind', at', written', char') =
    let joined : digits ++ space ∷ behind ≡ digits' ++ space ∷ behind' = search (sym at ∙ at') in
    let cuts = same_parts digits digits' behind behind' m n written written' joined in
    ap (λ k. number_and_character k c) (same_number digits digits' m n cuts.0 written written')
    ∙ ap (number_and_character n) (same_char behind behind' c d cuts.1 char char')
same_arguments tail (number_and_text m t) (number_and_text n u) is (digits, at, written)
    (digits', at', written') =
    let joined : digits ++ space ∷ t ≡ digits' ++ space ∷ u = search (sym at ∙ at') in
    let cuts = same_parts digits digits' t u m n written written' joined in
    ap (λ k. number_and_text k t) (same_number digits digits' m n cuts.0 written written')
    ∙ ap (number_and_text n) cuts.1
same_arguments tail (bytes bs) (bytes cs) is (digits, at, written) (digits', at', written') =
    let same : digits ≡ digits' = search (sym at ∙ at') in
    ap bytes (one_hex_text digits' bs cs (subst (λ d. IsHexText d bs) same written) written')
same_arguments tail one other is ends too = cc

pub one_command : (line : List ℕ) (one other : Command) → IsLine line one → IsLine line other
    → (word_of one ≡ word_of other) × (arguments_of one ≡ arguments_of other)
one_command line one other (tail, is, ends) asked =
    let apart = tail_forms (arguments_of one) tail ends in
    let parts = parts_of_line (word_of one) tail other (word_lacks_space one) apart
    (subst (λ l. IsLine l other) is asked) in
    let forms = form_of_word (word_of other) one (sym parts.0)
    ∙ sym (form_of_word (word_of other) other refl) in
    (parts.0, same_arguments tail (arguments_of one) (arguments_of other) forms ends parts.1)
