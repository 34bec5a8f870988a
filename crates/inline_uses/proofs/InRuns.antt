-- The ids of runs together, and where a text goes among them.
use Rattle.std.proofs.lemmas.List.{drop_all}
use Rattle.inline_uses.proofs.Names.{HaveFirsts, Index, inl, inr, subst, IsGap, IsStrictlySortedBy, Less, Less-from_sorted, List, Run, Some, [], ap, arith, cases_eq, cases_lt, common_steps, drop, flat_map, flat_map-append, get_or, get_or_from_slice_get, gets, ids_at, ids_of, key_order, length, length-append, length-drop, length-map, map, map-append, nat_list_cmp_total, refl, runs_of, set, set-get_or, set_split, slice_get, slice_get-get_or, slice_get-map, slice_get_within, suc, sym, take, take-nil, zero, ℕ, ◌++◌, ◌+◌, ◌-◌, ◌<◌, ◌∙◌, ◌∷◌, ◌≡◌, ◌≤◌}
use Rattle.inline_uses.proofs.Gaps.{turned, turned_back}
use Rattle.inline_uses.proofs.RunEdits.{sorted_parts}
use Rattle.inline_uses.proofs.Tables.{before_append}
use Rattle.inline_uses.proofs.Owned.{have_length, ids_at_got, ids_got}

-- the ids of runs
abbrev pub flat : List Run → List ℕ
flat = flat_map ids_of

pub past_append : {X : Type 0} (xs ys : List X) (i : ℕ)
    → slice_get (xs ++ ys) (length xs + i) ≡ slice_get ys i
past_append xs ys i = grind (arith, common_steps, gets)

-- a list around the element at an index
module _ {X : Type 0} where
  pub set_around : (xs : List X) (at : ℕ) (x y : X) → slice_get xs at ≡ Some x
      → set xs at y ≡ take at xs ++ y ∷ drop (suc at) xs
  set_around xs at x y is = set_split xs at y (slice_get_within xs at x is)

  pub around : (xs : List X) (at : ℕ) (x : X) → slice_get xs at ≡ Some x
      → xs ≡ take at xs ++ x ∷ drop (suc at) xs
  around xs at x is = sym (set-get_or xs at x)
      ∙ ap (set xs at) (get_or_from_slice_get xs at x x is) ∙ set_around xs at x x is

-- the ids are those before a run, its own, and those after it
pub flat_at : (runs : List Run) (k : ℕ) (run : Run) → slice_get runs k ≡ Some run
    → flat runs ≡ flat (take k runs) ++ (ids_of run ++ flat (drop (suc k) runs))
flat_at runs k run is = ap flat (around runs k run is)
    ∙ flat_map-append ids_of (take k runs) (run ∷ drop (suc k) runs)

-- an id of a run is among all
pub in_flat : (runs : List Run) (k : ℕ) (run : Run) (at id : ℕ) → slice_get runs k ≡ Some run
    → slice_get (ids_of run) at ≡ Some id
    → slice_get (flat runs) (length (flat (take k runs)) + at) ≡ Some id
in_flat runs k run at id is here =
    let before = flat (take k runs) in
    let after = flat (drop (suc k) runs) in
    ap (λ ids. slice_get ids (length before + at)) (flat_at runs k run is)
    ∙ past_append before (ids_of run ++ after) at ∙ before_append (ids_of run) after at id here

-- a first id is that of a run
pub run_of_first : (ids : List ℕ) (runs : List Run) (k id : ℕ) → HaveFirsts ids runs
    → slice_get ids k ≡ Some id
    → (run : Run) × (slice_get runs k ≡ Some run) × (slice_get (ids_of run) 0 ≡ Some id)
run_of_first [] runs k id have is = cc
run_of_first (i ∷ ids) [] k id have is = absurd have
run_of_first (i ∷ ids) (run ∷ runs) zero id have is = (run, refl, have.0 ∙ is)
run_of_first (i ∷ ids) (run ∷ runs) (suc k) id have is = run_of_first ids runs k id have.1 is

-- the ids of the run at an index
pub ids_at_is : (runs : List Run) (k : ℕ) (run : Run) → slice_get runs k ≡ Some run
    → ids_at runs k ≡ ids_of run
ids_at_is runs k run is = ids_at_got runs k ∙ ap ids_got is

pub own_len : (runs : List Run) (k : ℕ) (run : Run) → slice_get runs k ≡ Some run
    → length (ids_at runs k) ≡ length (ids_of run)
own_len runs k run is = ap length (ids_at_is runs k run is)

-- a run ends where the next one starts
pub next_start : (runs : List Run) (k : ℕ)
    → length (flat (take (suc k) runs)) ≡ length (flat (take k runs)) + length (ids_at runs k)
next_start [] k = rw take-nil refl
next_start (r ∷ runs) zero = simp length-append (omega arith)
next_start (r ∷ runs) (suc k) = simp length-append (omega (arith, next_start runs k))

-- and before any later one
pub later_start : (runs : List Run) (j k : ℕ) → j < k
    → length (flat (take j runs)) + length (ids_at runs j) ≤ length (flat (take k runs))
later_start runs j zero less = absurd (omega (arith, less))
later_start [] j (suc k) less = rw (take-nil j) (omega arith)
later_start (r ∷ runs) zero (suc k) less = simp length-append (omega arith)
later_start (r ∷ runs) (suc j) (suc k) less =
    simp length-append (omega (arith, later_start runs j k (omega arith)))

-- a first id is where its run starts, which has it
pub first_at : (ids : List ℕ) (runs : List Run) (i id : ℕ) → HaveFirsts ids (drop 1 runs)
    → slice_get ids i ≡ Some id
    → (slice_get (flat runs) (length (flat (take (suc i) runs))) ≡ Some id)
    × (0 < length (ids_at runs (suc i)))
first_at [] [] i id have is = cc
first_at (x ∷ ids) [] i id have is = absurd have
first_at ids (r ∷ runs) i id have is =
    let run = run_of_first ids runs i id have is in
    let start = length (flat (take (suc i) (r ∷ runs))) in
    let place : start + 0 ≡ start = omega arith in (
      subst (λ n. slice_get (flat (r ∷ runs)) n ≡ Some id) place
          (in_flat (r ∷ runs) (suc i) run.0 0 id run.1 run.2),
      rw (ids_at_is runs i run.0 run.1) (slice_get_within (ids_of run.0) 0 id run.2),
    )

-- where a text goes among others in order, which its neighbours decide
gap_between_two : (texts : List (List ℕ)) (text : List ℕ) (at : ℕ)
    → IsStrictlySortedBy key_order texts → at ≤ length texts
    → ((i : ℕ) → i + 1 ≡ at → key_order (get_or texts i []) text ≡ Less)
    → (at < length texts → key_order text (get_or texts at []) ≡ Less) → IsGap texts text at
gap_between_two texts text at sorted within below above = (
  within,
  (λ i less. turned (get_or texts i []) text (elim (cases_lt (i + 1) at) [
    | inl before ↦ nat_list_cmp_total.trans _ (get_or texts (at - 1) []) text
        (Less-from_sorted key_order texts i (at - 1) [] sorted (omega arith) (omega arith))
        (below (at - 1) (omega (arith, less)))
    | inr last ↦ below i (omega (arith, less, last))
  ])),
  λ i le less. elim (cases_lt at i) [
    | inl after ↦ nat_list_cmp_total.trans text (get_or texts at []) _ (above (omega arith))
        (Less-from_sorted key_order texts at i [] sorted after less)
    | inr first ↦ let same : i ≡ at = omega (arith, le, first) in rw same (above (omega arith))
  ],
)

-- ids whose texts are in order, beside a text
module _ (text_of : ℕ → List ℕ) where
  abbrev pub AreSorted : List ℕ → Type 0
  AreSorted ids = IsStrictlySortedBy key_order (map text_of ids)

  pub sorted_rest : (ids rest : List ℕ) → AreSorted (ids ++ rest) → AreSorted rest
  sorted_rest ids rest sorted =
      (sorted_parts (map text_of ids) (map text_of rest) (rw (← map-append) sorted)).1

  text_read : (ids : List ℕ) (i id : ℕ) → slice_get ids i ≡ Some id
      → get_or (map text_of ids) i [] ≡ text_of id
  text_read ids i id is = get_or_from_slice_get (map text_of ids) i (text_of id) []
      (rw (slice_get-map, is) refl)

  -- an earlier id has a lesser text
  pub in_order : (ids : List ℕ) (i j x y : ℕ) → AreSorted ids → i < j → slice_get ids i ≡ Some x
      → slice_get ids j ≡ Some y → key_order (text_of x) (text_of y) ≡ Less
  in_order ids i j x y sorted less first second =
      rw (text_read ids i x first, text_read ids j y second)
      at (Less-from_sorted key_order (map text_of ids) i j [] sorted less
      (rw length-map (slice_get_within ids j y second)))

  -- the texts of a run are among all
  pub own_text : (runs : List Run) (k : ℕ) (run : Run) → slice_get runs k ≡ Some run
      → (i : ℕ) → i < length (ids_of run)
      → get_or (map text_of (flat runs)) (length (flat (take k runs)) + i) []
      ≡ get_or (map text_of (ids_of run)) i []
  own_text runs k run is i less =
      let here = slice_get-get_or (ids_of run) i 0 less in
      text_read (flat runs) _ _ (in_flat runs k run i _ is here)
      ∙ sym (text_read (ids_of run) i _ here)

  pub texts_count : (runs : List Run) (k : ℕ) (run : Run) → slice_get runs k ≡ Some run
      → length (map text_of (flat runs))
      ≡ length (flat (take k runs)) + (length (ids_of run) + length (flat (drop (suc k) runs)))
  texts_count runs k run is =
      rw (length-map, flat_at runs k run is, length-append, length-append) refl

  module _ (text : List ℕ) where
    -- a text goes after the first id of each run but the first
    pub after_first : (ids : List ℕ) (runs : List Run) (k at : ℕ) (run : Run)
        → HaveFirsts ids (drop 1 runs) → IsGap (map text_of ids) text k
        → slice_get runs k ≡ Some run → IsGap (map text_of (ids_of run)) text at → 0 < k → 0 < at
    after_first ids [] k at run have gap is here past = cc
    after_first ids (r ∷ runs) zero at run have gap is here past = absurd (omega (arith, past))
    after_first ids (r ∷ runs) (suc k) zero run have gap is here past =
        let there = slice_get-get_or ids k 0 (rw length-map at gap.0) in
        let first = run_of_first ids runs k _ have there in
        let same : first.0 ≡ run = cc in
        let starts = rw same at first.2 in
        let above = rw (text_read ids k _ there) at (gap.1 k (omega arith)) in
        let below = rw (text_read (ids_of run) 0 _ starts) at (here.2 0 (omega arith)
        (rw length-map (slice_get_within (ids_of run) 0 _ starts))) in
        cc
    after_first ids (r ∷ runs) (suc k) (suc at) run have gap is here past = omega arith

    -- what comes after a run is above a text that goes in it
    next_above : (ids : List ℕ) (runs : List Run) (k : ℕ) (run : Run) → HaveFirsts ids (drop 1 runs)
        → IsGap (map text_of ids) text k → slice_get runs k ≡ Some run
        → let end = length (flat (take k runs)) + length (ids_of run) in
        end < length (map text_of (flat runs))
        → key_order text (get_or (map text_of (flat runs)) end []) ≡ Less
    next_above ids runs k run have gap is more = elim (cases_lt k (length ids)) [
      | inl later ↦
          let there = slice_get-get_or ids k 0 later in
          let next = sym (next_start runs k ∙ ap (λ n. length (flat (take k runs)) + n)
          (own_len runs k run is)) in
          rw (next, text_read (flat runs) _ _ (first_at ids runs k _ have there).0)
          (rw (text_read ids k _ there) at (gap.2 k (omega arith) (rw length-map later)))
      | inr last ↦
          let none = drop_all (suc k) runs
          (omega (arith, last, have_length ids (drop 1 runs) have, length-drop 1 runs)) in
          absurd (omega (arith, more, texts_count runs k run is, ap (λ rs. length (flat rs)) none))
    ]

    -- where a text goes in the run in which it goes, it goes among all
    pub gap_in_flat : (ids : List ℕ) (runs : List Run) (k at : ℕ) (run : Run)
        → AreSorted (flat runs) → HaveFirsts ids (drop 1 runs) → IsGap (map text_of ids) text k
        → slice_get runs k ≡ Some run → IsGap (map text_of (ids_of run)) text at
        → IsGap (map text_of (flat runs)) text (length (flat (take k runs)) + at)
    gap_in_flat ids runs k at run sorted have gap is here =
        let own = ids_of run in
        let start = length (flat (take k runs)) in
        let within = rw length-map at here.0 in
        gap_between_two (map text_of (flat runs)) text (start + at) sorted
        (omega (arith, texts_count runs k run is, within)) (λ i next. elim (cases_eq at 0) [
          | inl none ↦
              let goes = after_first ids runs k at run have gap is here in
              let first : k ≡ 0 = grind (arith, none, goes) in
              let before : start ≡ 0 = rw first refl in
              absurd (omega (arith, next, none, before))
          | inr some ↦
              let place : i ≡ start + (at - 1) = omega (arith, next, some) in
              rw (place, own_text runs k run is (at - 1) (omega (arith, some, within)))
              (turned_back text _ (here.1 (at - 1) (omega (arith, some))))
        ]) (λ more. elim (cases_lt at (length own)) [
          | inl inside ↦ rw (own_text runs k run is at inside)
              (here.2 at (omega arith) (rw length-map inside))
          | inr past ↦
              let end : at ≡ length own = omega (arith, past, within) in
              rw end (next_above ids runs k run have gap is (rw end at more))
        ])

    pub id_of_text : (ids : List ℕ) (k : ℕ) → slice_get (map text_of ids) k ≡ Some text
        → (id : ℕ) × (slice_get ids k ≡ Some id) × (Some (text_of id) ≡ Some text)
    id_of_text ids k found =
        let is = slice_get-get_or ids k 0
        (rw length-map at (slice_get_within (map text_of ids) k text found)) in
        (get_or ids k 0, is, rw (slice_get-map, is) at found)

    -- what is found in a run is among all
    pub text_in_flat : (runs : List Run) (k at : ℕ) (run : Run) → slice_get runs k ≡ Some run
        → slice_get (map text_of (ids_of run)) at ≡ Some text
        → slice_get (map text_of (flat runs)) (length (flat (take k runs)) + at) ≡ Some text
    text_in_flat runs k at run there found =
        let id = id_of_text (ids_of run) at found in
        rw (slice_get-map, in_flat runs k run at id.0 there id.1) id.2

-- a run that a text goes in is there
pub run_within : (text_of : ℕ → List ℕ) (text ids : List ℕ) (runs : List Run) (k : ℕ)
    → HaveFirsts ids runs → IsGap (map text_of ids) text k → k ≤ length runs
run_within text_of text ids runs k have gap =
    rw (have_length ids runs have) at (rw length-map at gap.0)

-- of the runs of an index one is another
pub record IsReplaced (before after : Index) (at : ℕ) (old new : Run) : Type 0 where
  pub there : slice_get (runs_of before) at ≡ Some old
  pub runs : runs_of after ≡ set (runs_of before) at new

-- a later run, by its index among these
pub later_there : (first : Run) (later : List Run) (k : ℕ) (run : Run) → 0 < k
    → slice_get later (k - 1) ≡ Some run → slice_get (first ∷ later) k ≡ Some run
later_there first later k run past is = let next : k ≡ suc (k - 1) = omega arith in rw next is

pub later_set : (first new : Run) (later : List Run) (k : ℕ) → 0 < k
    → first ∷ set later (k - 1) new ≡ set (first ∷ later) k new
later_set first new later zero past = absurd (omega (arith, past))
later_set first new later (suc k) past =
    let before : suc k - 1 ≡ k = omega arith in
    ap (λ i. first ∷ set later i new) before
