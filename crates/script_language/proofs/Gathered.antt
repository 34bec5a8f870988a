-- What waits to be written after what was.
use Rattle.std.proofs.Common.{◌≡◌, ℕ, List, [], ◌++◌, sym, ap, subst, ◌∙◌, append_assoc, append-nil, Option}
use Rattle.std.specs.Io.KnownBytes.{Appends}
use Rattle.std.proofs.KnownBytes.{Appends-nil, Appends-trans}
use Rattle.script_language.specs.Output.{IsGathered, WritesFront}
use Rattle.script_language.proofs.Fronts.{front_after, front_of_more}

-- nothing was written
pub gathered_in : (a : Option (List ℕ)) (w bytes : List ℕ) {x : List ℕ} → x ≡ w ++ bytes
    → IsGathered a a w bytes x
gathered_in a w bytes e = record { front = []; split = sym e; written = Appends-nil a }

-- all was written
pub gathered_out : (a b c : Option (List ℕ)) (w bytes : List ℕ) {x : List ℕ} → Appends a b w
    → x ≡ [] → Appends b c bytes → IsGathered a c w bytes x
gathered_out a b c w bytes {x} before e written = record {
  front = w ++ bytes;
  split = sym (append-nil (w ++ bytes)) ∙ ap (λ l. (w ++ bytes) ++ l) (sym e);
  written = Appends-trans a b c w bytes before written;
}

-- the start of what was gathered, and what follows
regroup : (w bytes more front x : List ℕ) → w ++ bytes ≡ front ++ x
    → w ++ (bytes ++ more) ≡ front ++ (x ++ more)
regroup w bytes more front x split =
    sym (append_assoc w bytes more) ∙ ap (λ l. l ++ more) split ∙ append_assoc front x more

-- more bytes after those
pub gathered_more : {a b c : Option (List ℕ)} {w bytes x more y : List ℕ}
    → IsGathered a b w bytes x → IsGathered b c x more y → IsGathered a c w (bytes ++ more) y
gathered_more {a} {b} {c} {w} {bytes} {x} {more} {y} g h = record {
  front = g.front ++ h.front;
  split = regroup w bytes more g.front x g.split
      ∙ ap (λ l. g.front ++ l) h.split
      ∙ sym (append_assoc g.front h.front y);
  written = Appends-trans a b c g.front h.front g.written h.written;
}

-- a prefix of more bytes after those
pub front_after_gathered : {a b c : Option (List ℕ)} {w bytes x : List ℕ} (more : List ℕ)
    → IsGathered a b w bytes x → WritesFront b c (x ++ more)
    → WritesFront a c (w ++ (bytes ++ more))
front_after_gathered {a} {b} {c} {w} {bytes} {x} more g f =
    subst (WritesFront a c) (sym (regroup w bytes more g.front x g.split))
    (front_after a b c g.front (x ++ more) g.written f)

-- a front of these is one of more
pub front_of_longer : {a b : Option (List ℕ)} (w bytes more : List ℕ)
    → WritesFront a b (w ++ bytes) → WritesFront a b (w ++ (bytes ++ more))
front_of_longer {a} {b} w bytes more f =
    subst (WritesFront a b) (append_assoc w bytes more) (front_of_more a b (w ++ bytes) more f)

-- what waits is written at the end
pub gathered_and_flushed : {a b : Option (List ℕ)} (c : Option (List ℕ)) {w bytes x : List ℕ}
    → IsGathered a b w bytes x → Appends b c x → Appends a c (w ++ bytes)
gathered_and_flushed {a} {b} c {w} {bytes} {x} g h =
    subst (Appends a c) (sym g.split) (Appends-trans a b c g.front x g.written h)

-- or a front of it
pub front_of_flushed : {a b c : Option (List ℕ)} {w bytes x : List ℕ}
    → IsGathered a b w bytes x → WritesFront b c x → WritesFront a c (w ++ bytes)
front_of_flushed {a} {b} {c} {w} {bytes} {x} g f =
    subst (WritesFront a c) (sym g.split) (front_after a b c g.front x g.written f)
