-- How a key of a tree's map stores its place, and that the order of the map is one.
use Rattle.std.specs.Prelude.{ℕ, zero, suc, List, Option, Some, None}
use Rattle.std.specs.Cmp.{IsTotalOrder, nat_cmp_total, then_total, on_total}
use Rattle.std.specs.Cmp.Lexicographic.{nat_list_cmp_total, options_total}
use Rattle.inlinable_string.specs.Text.{bytes_of}
use Rattle.inline_uses.specs.Tree.{place_order}

-- the place that a number stands for: the top, or a node by its number
abbrev pub place_of : ℕ → Option ℕ
place_of zero = None
place_of (suc id) = Some id

pub place_order_total : IsTotalOrder place_order
place_order_total =
    then_total (on_total (λ (a : Option ℕ × List ℕ). a.0) (options_total nat_cmp_total))
    (on_total (λ (a : Option ℕ × List ℕ). bytes_of a.1) nat_list_cmp_total)
