-- Fronts of what is to be written, where a write fails.
use Rattle.std.proofs.Common.{◌≡◌, refl, List, ℕ, ◌++◌, ap, sym, ◌∙◌, append_assoc, Option, IfErr, Result, Ok, Err}
use Rattle.std.specs.Io.KnownBytes.{Appends}
use Rattle.std.proofs.KnownBytes.{Appends-trans}
use Rattle.script_language.specs.Output.{WritesFront}

-- a front that was written is one of more
pub front_of_more : (old new : Option (List ℕ)) (bytes more : List ℕ) → WritesFront old new bytes
    → WritesFront old new (bytes ++ more)
front_of_more old new bytes more w = record {
  front = w.front;
  behind = w.behind ++ more;
  split = ap (λ l. l ++ more) w.split ∙ append_assoc w.front w.behind more;
  written = w.written;
}

-- and one of what was written before and these
pub front_after : (a b c : Option (List ℕ)) (done bytes : List ℕ) → Appends a b done
    → WritesFront b c bytes → WritesFront a c (done ++ bytes)
front_after a b c done bytes first w = record {
  front = done ++ w.front;
  behind = w.behind;
  split = ap (λ l. done ++ l) w.split ∙ sym (append_assoc done w.front w.behind);
  written = Appends-trans a b c done w.front first w.written;
}

-- what holds whatever the error is
pub of_any_error : {T E : Type 0} (r : Result T E) (P : Type 0) → P → IfErr r (λ _. P)
of_any_error (Ok x) P p = tt
of_any_error (Err e) P p = p

-- and what follows from it
pub of_error : {T E : Type 0} (r : Result T E) (P Q : Type 0) → (P → Q) → IfErr r (λ _. P)
    → IfErr r (λ _. Q)
of_error (Ok x) P Q f p = tt
of_error (Err e) P Q f p = f p

-- what stayed is unchanged, whatever the error is
pub unchanged_on_error : {T E S : Type 0} (r : Result T E) (P : E → Type 0) (s : S)
    → IfErr r (λ e. P e → s ≡ s)
unchanged_on_error (Ok x) P s = tt
unchanged_on_error (Err e) P s = λ _. refl
