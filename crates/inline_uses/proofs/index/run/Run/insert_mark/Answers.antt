use Rattle.std.proofs.Common.{arith, rules, ◌≡◌, ◌≤◌, ◌+◌, ◌++◌, ◌∷◌, ℕ, List, [], length, set}
use Rattle.std.proofs.lemmas.Bool.{cases_eq}
use Rattle.std.proofs.lemmas.List.{get_or-set_same, places, same_lists}
use Rattle.std.specs.List.{copy_within, insert}
use Rattle.inline_uses.proofs.index.run.Run.insert_mark.Goals as goal

-- what is from an index on moves up by one, and leaves room for an element there
moved_up : {X : Type 0} (xs : List X) (at : ℕ) (x : X) → at ≤ length xs
    → set (copy_within (xs ++ x ∷ []) at (length xs) (at + 1)) at x ≡ insert xs at x
moved_up xs at x within =
    same_lists _ _ (search (rules, places))
    (λ k d h. grind (arith, places, get_or-set_same, cases_eq k at))

pub returns-clause-marks : goal.returns-clause-marks
returns-clause-marks c =
    let marks = c.args.self.now.marks.items in
    let pushed : c.push.new.self.items ≡ marks ++ c.args.mark ∷ [] = search rules in
    let len : c.len-len.result ≡ length marks = search rules in
    rw (c.copy_within.ensures.items, pushed, len)
    (moved_up marks c.args.at c.args.mark c.requires.within)
