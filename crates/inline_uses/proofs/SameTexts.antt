-- An index over other texts, or with other ids, whose ids have the texts that its ids had.
use Rattle.std.specs.List.{AllZip}
use Rattle.inline_uses.proofs.Names.{AllByRecursion, Global, HaveFirsts, Index, IsIndex, IsMark, IsOrdered, IsStrictlySortedBy, List, Mark, Run, Some, Vec, [], ap, arith, drop, first_front, ids_in, ids_of, key_order, length, map, refl, runs_of, set, slice_get, slice_get-map, subst, suc, sym, zero, ℕ, ◌++◌, ◌∙◌, ◌∷◌, ◌≡◌}
use Rattle.inline_uses.proofs.InRuns.{flat}
use Rattle.inline_uses.proofs.RunSets.{IsShort}

module _ (f g : ℕ → List ℕ) where
  -- the new ids have by one the texts that the old ones have by the other
  abbrev pub HaveTexts : List ℕ → List ℕ → Type 0
  HaveTexts olds news = map g news ≡ map f olds

  renamed_marks : (len : ℕ) (front : List ℕ) (olds news : List Mark)
      → map (λ m. m.bits) news ≡ map (λ m. m.bits) olds
      → HaveTexts (map (λ m. m.id) olds) (map (λ m. m.id) news)
      → AllByRecursion (IsMark f len front) olds → AllByRecursion (IsMark g len front) news
  renamed_marks len front olds [] bits same are = tt
  renamed_marks len front [] (n ∷ news) bits same are = cc
  renamed_marks len front (m ∷ olds) (n ∷ news) bits same are =
      let text : g n.id ≡ f m.id = cc in
      let number : n.bits ≡ m.bits = cc in (
        record {
          begins = rw text are.0.begins;
          bits = rw text (number ∙ are.0.bits);
          bytes = rw text are.0.bytes;
        },
        renamed_marks len front olds news (ap (drop 1) bits) (ap (drop 1) same) are.1,
      )

  -- a run stays one if its front and the bits of its marks stay
  pub renamed_run : (old : Run) (marks : Vec Mark Global)
      → map (λ m. m.bits) marks.items ≡ map (λ m. m.bits) old.marks.items → IsOrdered f old
      → HaveTexts (ids_of old) (map (λ m. m.id) marks.items)
      → IsOrdered g (record { front = old.front; marks = marks })
  renamed_run old marks bits is same = record {
    sorted = subst (IsStrictlySortedBy key_order) (sym same) is.sorted;
    marks = subst (λ ts. AllByRecursion (IsMark g old.front (first_front old.front ts)) marks.items)
        (sym same) (renamed_marks old.front (first_front old.front (map f (ids_of old)))
        old.marks.items marks.items bits same is.marks);
  }

  -- a run has other ids for the same texts, or the same ids
  abbrev pub StaysOrdered : Run → Run → Type 0
  StaysOrdered old new = IsOrdered f old → HaveTexts (ids_of old) (ids_of new) → IsOrdered g new

  abbrev pub IsRenamed : Run → Run → Type 0
  IsRenamed old new = (length (ids_of new) ≡ length (ids_of old)) × StaysOrdered old new

  abbrev pub AreRenamed : List Run → List Run → Type 0
  AreRenamed = AllZip IsRenamed

  pub same_run : (run : Run) → IsRenamed run run
  same_run run = (refl, renamed_run run run.marks refl)

  pub same_runs : (runs : List Run) → AreRenamed runs runs
  same_runs [] = tt
  same_runs (run ∷ runs) = (same_run run, same_runs runs)

  -- of some runs one has other ids
  pub one_renamed : (runs : List Run) (k : ℕ) (old new : Run) → slice_get runs k ≡ Some old
      → IsRenamed old new → AreRenamed runs (set runs k new)
  one_renamed [] k old new there renamed = tt
  one_renamed (r ∷ runs) zero old new there renamed =
      let same : old ≡ r = cc in
      (subst (λ r. IsRenamed r new) same renamed, same_runs runs)
  one_renamed (r ∷ runs) (suc k) old new there renamed =
      (same_run r, one_renamed runs k old new there renamed)

  parted : (olds news xs ys : List ℕ) → length news ≡ length olds
      → HaveTexts (olds ++ xs) (news ++ ys) → HaveTexts olds news × HaveTexts xs ys
  parted [] [] xs ys as_many same = (refl, same)
  parted (m ∷ olds) (n ∷ news) xs ys as_many same =
      let rest = parted olds news xs ys (omega (arith, as_many)) (ap (drop 1) same) in
      (cc, rest.1)
  parted olds news xs ys as_many same = cc

  runs_renamed : (olds news : List Run) → AreRenamed olds news → HaveTexts (flat olds) (flat news)
      → AllByRecursion (IsOrdered f) olds → AllByRecursion IsShort olds
      → AllByRecursion (IsOrdered g) news × AllByRecursion IsShort news
  runs_renamed [] [] are same ordered short = (tt, tt)
  runs_renamed (m ∷ olds) (n ∷ news) are same ordered short =
      let parts = parted (ids_of m) (ids_of n) (flat olds) (flat news) are.0.0 same in
      let rest = runs_renamed olds news are.1 parts.1 ordered.1 short.1 in (
        (are.0.1 ordered.0 parts.0, rest.0),
        (omega (arith, are.0.0, short.0), rest.1),
      )
  runs_renamed olds news are same ordered short = absurd are

  firsts_renamed : (ms ns : List ℕ) (olds news : List Run) → AreRenamed olds news
      → HaveTexts (flat olds) (flat news) → HaveFirsts ms olds → HaveFirsts ns news
      → HaveTexts ms ns
  firsts_renamed [] [] olds news are same have now = refl
  firsts_renamed (m ∷ ms) (n ∷ ns) (old ∷ olds) (new ∷ news) are same have now =
      let parts = parted (ids_of old) (ids_of new) (flat olds) (flat news) are.0.0 same in
      let rest = firsts_renamed ms ns olds news are.1 parts.1 have.1 now.1 in
      let head : Some (g n) ≡ Some (f m)
      = rw (slice_get-map, now.0, slice_get-map, have.0) at (ap (λ ts. slice_get ts 0) parts.0) in
      cc
  firsts_renamed ms ns (old ∷ olds) [] are same have now = absurd are
  firsts_renamed ms ns [] (new ∷ news) are same have now = absurd are
  firsts_renamed [] ns (old ∷ olds) news are same have now = absurd have
  firsts_renamed (m ∷ ms) ns [] [] are same have now = absurd have
  firsts_renamed ms ns olds news are same have now = absurd now

  -- an index stays one if its runs, and the run of the first ids, have other ids
  pub renamed_index : (before after : Index) → AreRenamed (runs_of before) (runs_of after)
      → IsRenamed before.starts after.starts → HaveFirsts (ids_of after.starts) after.later.items
      → IsIndex f before → HaveTexts (ids_in before) (ids_in after) → IsIndex g after
  renamed_index before after are starts firsts is same =
      let runs = runs_renamed (runs_of before) (runs_of after) are same is.runs is.short in
      let later = (parted (ids_of before.first) (ids_of after.first) (flat before.later.items)
      (flat after.later.items) are.0.0 same).1 in
      record {
        sorted = subst (IsStrictlySortedBy key_order) (sym same) is.sorted;
        runs = runs.0;
        short = runs.1;
        starts = starts.1 is.starts (firsts_renamed (ids_of before.starts) (ids_of after.starts)
            before.later.items after.later.items are.1 later is.firsts firsts);
        firsts = firsts;
      }

  -- an index stays one over texts of which those of its ids are the same
  pub same_texts : (index : Index) → HaveTexts (ids_in index) (ids_in index) → IsIndex f index
      → IsIndex g index
  same_texts index same is = renamed_index index index (same_runs (runs_of index))
      (same_run index.starts) is.firsts is same
