use Rattle.std.proofs.Common.{[], ◌∷◌, Some, refl, sym, ap}
use Rattle.inline_uses.proofs.worked.items_have_their_ids.Goals as goal

pub returns-clause-refused : goal.returns-clause-refused
returns-clause-refused g a b is = (a ∷ [], b, refl, (0 ∷ [], (ap Some (sym is), tt), refl))
