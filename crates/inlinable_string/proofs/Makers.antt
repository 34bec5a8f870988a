-- Texts that are made of bytes, and bytes of texts.
use Rattle.inlinable_string.proofs.Common.{◌≡◌, ℕ, List, Result, Ok, Err, IfOk, IsOk, MatchResult, ap, ◌∙◌, subst, rules, chars, IsUtf8, string_bytes, string_vec, String, encodes-chars, chars_from_encodes, IsUtf8-string_bytes, bytes_of}
use Rattle.std.specs.declared.vec.Vec.{Vec}

pub bytes-string : {Z : Type 0} (s : String Z) → bytes_of (chars (string_bytes s)) ≡ string_bytes s
bytes-string s = encodes-chars _ (IsUtf8-string_bytes s)

pub bytes_made : {Z : Type 0} (s : String Z) (v : Vec ℕ Z) → string_vec s ≡ v
    → bytes_of (chars (string_bytes s)) ≡ v.items
bytes_made s v e = bytes-string s ∙ ap (λ w. w.items) e

pub utf8_made : {Z : Type 0} (s : String Z) (v : Vec ℕ Z) → string_vec s ≡ v → IsUtf8 v.items
utf8_made s v e = subst (λ w. IsUtf8 w.items) e (IsUtf8-string_bytes s)

pub well_formed : {Z E : Type 0} (r : Result (String Z) E) (v : Vec ℕ Z)
    → IfOk r (λ s. string_vec s ≡ v) → (IsUtf8 v.items → IsOk r)
    → MatchResult r (λ _. IsUtf8 v.items) (λ _. ¬ (IsUtf8 v.items))
well_formed (Ok s) v made ok = utf8_made s v made
well_formed (Err e) v made ok = λ u. let h = ok u in cc

-- a text that has the bytes of a string is that string's
pub text_made : {Z : Type 0} (t : List ℕ) (s : String Z) (v : Vec ℕ Z) → v ≡ string_vec s
    → bytes_of t ≡ v.items → t ≡ chars (string_bytes s)
text_made t s v e h = search (rules, chars_from_encodes, IsUtf8-string_bytes)

pub ruleset made = (bytes-string, bytes_made)
