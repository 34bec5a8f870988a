use Rattle.inlinable_string.proofs.Common.{common_steps, ◌≡◌, ◌+◌, ◌<◌, ◌++◌, ℕ, List, length, take, refl, sym, arith, subst, take_more}
use Rattle.std.proofs.Common.{slice_set, slice_index_or}
use Rattle.std.proofs.Math.ListN.{length-set}
use Rattle.inlinable_string.proofs.string_ext.utf8.write_char.Goals as goal

-- a byte more after those that are written
one_more : (made bs new : List ℕ) (at n j m : ℕ) → j ≡ at + n → m ≡ at + (n + 1) → j < length new
    → n < length bs → take j new ≡ take at made ++ take n bs
    → take m (slice_set new j (slice_index_or bs n 0)) ≡ take at made ++ take (n + 1) bs
one_more made bs new at n j m here behind room less so =
    grind (arith, common_steps, take_more bs n 0 less)

pub returns-then-len-gt3 : goal.returns-then-len-gt3
returns-then-len-gt3 c =
    let made = c.args.made.now in
    let bs = c.args.bytes.now in
    let at = c.args.at in
    let len : c.args.len ≡ 4 = omega arith in
    let new = slice_set made at (slice_index_or bs 0 0) in
    let new2 = slice_set new (at + 1) (slice_index_or bs 1 0) in
    let new3 = slice_set new2 (at + 2) (slice_index_or bs 2 0) in
    let new4 = slice_set new3 (at + 3) (slice_index_or bs 3 0) in
    let long : length new ≡ length made = length-set made at _ in
    let long2 : length new2 ≡ length new = length-set new (at + 1) _ in
    let long3 : length new3 ≡ length new2 = length-set new2 (at + 2) _ in
    let one : take (at + 1) new ≡ take at made ++ take 1 bs = grind (arith, common_steps) in
    let two : take (at + 2) new2 ≡ take at made ++ take 2 bs =
    one_more made bs new at 1 _ _ refl refl (omega arith) (omega arith) one in
    let three : take (at + 3) new3 ≡ take at made ++ take 3 bs =
    one_more made bs new2 at 2 _ _ refl refl (omega arith) (omega arith) two in
    let four : take (at + 4) new4 ≡ take at made ++ take 4 bs =
    one_more made bs new3 at 3 _ _ refl refl (omega arith) (omega arith) three in
    subst (λ l. take (at + l) new4 ≡ take at made ++ take l bs) (sym len) four
