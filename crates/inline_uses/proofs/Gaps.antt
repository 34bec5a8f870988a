-- Where a key goes among others that are below it and above it.
use Rattle.inline_uses.proofs.Names.{All-from_recursion, All-get_or, AllByRecursion, Greater, IsGap, Less, List, [], ap, arith, drop, get_or-drop, get_or-take, get_or_append_left, key_order, length, length-append, length-drop, length-take-le, nat_list_cmp_total, ordering_reverse, recursion_from_All, refl, take, ℕ, ◌++◌, ◌+◌, ◌-◌, ◌∙◌, ◌≡◌}
use Rattle.std.proofs.lemmas.List.{get_or-append_right}
use Rattle.std.proofs.lemmas.List.Elements.{All-from_get_or}

-- texts are below a key, or above it
abbrev pub AreBelow : List ℕ → List (List ℕ) → Type 0
AreBelow key = AllByRecursion (λ k. key_order k key ≡ Less)

abbrev pub AreAbove : List ℕ → List (List ℕ) → Type 0
AreAbove key = AllByRecursion (λ k. key_order key k ≡ Less)

pub turned : (a b : List ℕ) → key_order a b ≡ Less → key_order b a ≡ Greater
turned a b less = nat_list_cmp_total.antisymm b a ∙ ap ordering_reverse less

pub turned_back : (a b : List ℕ) → key_order a b ≡ Greater → key_order b a ≡ Less
turned_back a b more = nat_list_cmp_total.antisymm b a ∙ ap ordering_reverse more

-- a key goes between those below it and those above it
pub gap_between : (key : List ℕ) (low high : List (List ℕ)) → AreBelow key low → AreAbove key high
    → IsGap (low ++ high) key (length low)
gap_between key low high below above =
    let count = length-append low high in (
      omega arith,
      (λ i less. rw (get_or_append_left low high [] i less) (turned _ key (All-get_or
          (λ k. key_order k key ≡ Less) low i [] less (All-from_recursion _ low below)))),
      λ i le less. rw (get_or-append_right low high (length low) i [] refl le) (All-get_or
          (λ k. key_order key k ≡ Less) high (i - length low) [] (omega (arith, count))
          (All-from_recursion _ high above)),
    )

-- those before the index of a key are below it, and the others above it
pub parts_of_gap : (key : List ℕ) (keys : List (List ℕ)) (at : ℕ) → IsGap keys key at
    → AreBelow key (take at keys) × AreAbove key (drop at keys)
parts_of_gap key keys at gap =
    let count = length-take-le at keys gap.0 in
    let left = length-drop at keys in (
      recursion_from_All (λ k. key_order k key ≡ Less) (take at keys)
          (All-from_get_or (λ k. key_order k key ≡ Less) (take at keys) []
          (λ i less. rw (get_or-take at keys i [] (omega (arith, count)))
          (turned_back key _ (gap.1 i (omega (arith, count)))))),
      recursion_from_All (λ k. key_order key k ≡ Less) (drop at keys)
          (All-from_get_or (λ k. key_order key k ≡ Less) (drop at keys) []
          (λ i less. rw get_or-drop (gap.2 (at + i) (omega arith) (omega (arith, left))))),
    )
