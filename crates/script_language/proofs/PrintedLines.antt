-- The lines that are printed of a run, one after the other.
use Rattle.std.proofs.Common.{◌≡◌, sym, ap, ◌∙◌, ℕ, ◌+◌, ◌<◌, ◌≤◌, List, ◌++◌, append_assoc, append-nil, drop, flat_map, get_or, length}
use Rattle.std.proofs.lemmas.List.{drop_all, drop_more}
use Rattle.inlinable_string.specs.declared.run.Reply.{Reply}
use Rattle.inlinable_string.specs.declared.run.Reply.TheVariants.{Done}
use Rattle.script_language.specs.Output.{reply_line}

-- the line of the reply at i follows those that are done
pub next_line : (rs : List Reply) (i : ℕ) (done : List ℕ) → i < length rs
    → done ++ flat_map reply_line (drop i rs) ≡ flat_map reply_line rs
    → (done ++ reply_line (get_or rs i Done)) ++ flat_map reply_line (drop (i + 1) rs)
    ≡ flat_map reply_line rs
next_line rs i done within all =
    append_assoc done (reply_line (get_or rs i Done)) (flat_map reply_line (drop (i + 1) rs))
    ∙ ap (λ l. done ++ flat_map reply_line l) (sym (drop_more rs i Done within))
    ∙ all

-- and none the last
pub no_line_left : (rs : List Reply) (i : ℕ) (done : List ℕ) → length rs ≤ i
    → done ++ flat_map reply_line (drop i rs) ≡ flat_map reply_line rs
    → done ≡ flat_map reply_line rs
no_line_left rs i done ended all =
    sym (append-nil done)
    ∙ ap (λ l. done ++ flat_map reply_line l) (sym (drop_all i rs ended))
    ∙ all
