-- A row of entries that begins after other cells: an edit in the row is one of all the cells.
use Rattle.std.proofs.Common.{List, arith, drop, drop-drop, insert, length, length-take, refl, remove, suc, take, ℕ, ◌+◌, ◌≡◌, ◌≤◌}
use Rattle.std.proofs.lemmas.List.{drop-append-le, drop-set-add, drop-take, get_or-drop, get_or_default}

-- a value that is set in a row
pub ruleset value_set = (drop-set-add, get_or-drop, get_or_default)

module _ {X : Type 0} (cells : List X) (start at : ℕ) (within : start ≤ length cells) where
  before : start ≤ length (take (start + at) cells)
  before = rw length-take (omega arith)

  pub inserted_after : (x : X)
      → drop start (insert cells (start + at) x) ≡ insert (drop start cells) at x
  inserted_after x =
      rw (drop-append-le start (take (start + at) cells) _ before, drop-take, drop-drop) refl

  pub removed_after : drop start (remove cells (start + at)) ≡ remove (drop start cells) at
  removed_after =
      let next : start + suc at ≡ suc (start + at) = omega arith in
      rw (drop-append-le start (take (start + at) cells) _ before, drop-take, drop-drop, next) refl
