-- A run whose ids get their marks anew, one after the other.
use Rattle.std.proofs.lemmas.List.{take_more_set}
use Rattle.inline_uses.proofs.Names.{AllByRecursion, IsMark, List, Mark, Run, Some, ap, drop, first_front, from_be_bytes, get_or, ids_of, length, map, map-set_same, refl, slice_get, slice_get-map, slice_get_read, take, w64, with_item, ℕ, ◌+◌, ◌<◌, ◌∙◌, ◌≡◌}
use Rattle.inline_uses.proofs.Each.{all_append, all_at}
use Rattle.inline_uses.proofs.IndexMarks.{AreBytes}

-- the ids are those of a run before, and the marks before `i` are made
pub record IsMarkedTo (text_of : ℕ → List ℕ) (len i : ℕ) (old run : Run) : Type 0 where
  pub front_is : run.front ≡ len
  pub ids : ids_of run ≡ ids_of old
  pub marked : AllByRecursion
      (IsMark text_of len (first_front len (map text_of (ids_of old)))) (take i run.marks.items)

-- one mark more is made
pub marked_more : (text_of : ℕ → List ℕ) (len i bits : ℕ) (old run : Run) (item : Mark)
    → i < length run.marks.items → item ≡ get_or run.marks.items i item
    → bits ≡ from_be_bytes w64 (drop len (text_of item.id)) → AreBytes (text_of item.id)
    → AllByRecursion (λ text. take len text ≡ first_front len (map text_of (ids_of old)))
    (map text_of (ids_of old))
    → IsMarkedTo text_of len i old run
    → IsMarkedTo text_of len (i + 1) old (record {
      front = run.front;
      marks = with_item run.marks i (record { bits = bits; id = item.id });
    })
marked_more text_of len i bits old run item within read are bytes all marked =
    let marks = run.marks.items in
    let front = first_front len (map text_of (ids_of old)) in
    let there = slice_get_read marks (length marks) i item refl within read in
    let seen : Some (text_of item.id) ≡ slice_get (map text_of (ids_of old)) i
    = rw (← marked.ids, slice_get-map, slice_get-map, there) refl in
    let is : IsMark text_of len front (record { bits = bits; id = item.id }) = record {
      begins = all_at (λ text. take len text ≡ front) (map text_of (ids_of old)) i
          (text_of item.id) all seen;
      bits = are;
      bytes = bytes;
    } in
    record {
      front_is = marked.front_is;
      ids = map-set_same (λ m. m.id) marks i _ item (ap (λ m. m.id) read) ∙ marked.ids;
      marked = rw (take_more_set marks i (record { bits = bits; id = item.id }) within)
          (all_append (IsMark text_of len front) (take i marks) _ marked.marked (is, tt));
    }
