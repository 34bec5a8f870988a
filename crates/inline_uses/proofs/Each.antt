-- What holds of each element of a list, by recursion on it.
use Rattle.inline_uses.proofs.Names.{All-append, All-drop, All-from_recursion, All-map, All-set, All-take, All-weaker, AllByRecursion, List, Some, [], drop, insert, length, map, recursion_from_All, remove, set, slice_get, subst, suc, take, take-append_seam, zero, ℕ, ◌++◌, ◌∷◌, ◌≡◌}

module _ {X : Type 0} (P : X → Type 0) where
  pub all_at : (xs : List X) (i : ℕ) (x : X) → AllByRecursion P xs → Some x ≡ slice_get xs i → P x
  all_at [] i x all is = cc
  all_at (y ∷ xs) zero x all is = let same : y ≡ x = cc in subst P same all.0
  all_at (y ∷ xs) (suc i) x all is = all_at xs i x all.1 is

  pub all_take : (n : ℕ) (xs : List X) → AllByRecursion P xs → AllByRecursion P (take n xs)
  all_take n xs all =
      recursion_from_All P (take n xs) (All-take P n xs (All-from_recursion P xs all))

  pub all_drop : (n : ℕ) (xs : List X) → AllByRecursion P xs → AllByRecursion P (drop n xs)
  all_drop n xs all =
      recursion_from_All P (drop n xs) (All-drop P n xs (All-from_recursion P xs all))

  pub all_front : (xs ys : List X) → AllByRecursion P (xs ++ ys) → AllByRecursion P xs
  all_front xs ys all =
      subst (AllByRecursion P) (take-append_seam xs ys) (all_take (length xs) (xs ++ ys) all)

  pub all_append : (xs ys : List X) → AllByRecursion P xs → AllByRecursion P ys
      → AllByRecursion P (xs ++ ys)
  all_append xs ys front rest = recursion_from_All P (xs ++ ys)
      (All-append P xs ys (All-from_recursion P xs front) (All-from_recursion P ys rest))

  pub all_insert : (at : ℕ) (xs : List X) (new : X) → AllByRecursion P xs → P new
      → AllByRecursion P (insert xs at new)
  all_insert at xs new all is =
      all_append (take at xs) (new ∷ drop at xs) (all_take at xs all) (is, all_drop at xs all)

  pub all_remove : (at : ℕ) (xs : List X) → AllByRecursion P xs → AllByRecursion P (remove xs at)
  all_remove at xs all =
      all_append (take at xs) (drop (suc at) xs) (all_take at xs all) (all_drop (suc at) xs all)

  pub all_set : (xs : List X) (k : ℕ) (new : X) → AllByRecursion P xs → P new
      → AllByRecursion P (set xs k new)
  all_set xs k new all is =
      recursion_from_All P (set xs k new) (All-set P xs k new is (All-from_recursion P xs all))

  pub all_map : {Y : Type 0} (f : Y → X) (ys : List Y) → AllByRecursion (λ y. P (f y)) ys
      → AllByRecursion P (map f ys)
  all_map f ys all = recursion_from_All P (map f ys)
      (All-map P f ys (All-from_recursion (λ y. P (f y)) ys all))

  pub all_weaker : (Q : X → Type 0) → ((x : X) → P x → Q x) → (xs : List X)
      → AllByRecursion P xs → AllByRecursion Q xs
  all_weaker Q weaker xs all =
      recursion_from_All Q xs (All-weaker P Q weaker xs (All-from_recursion P xs all))
