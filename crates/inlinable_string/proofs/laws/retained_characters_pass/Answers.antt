use Rattle.std.proofs.lemmas.Fn.{filter_same}
use Rattle.inlinable_string.proofs.Retained.{dropped_first, kept_first}
use Rattle.inlinable_string.proofs.laws.retained_characters_pass.Goals as goal

pub returns : goal.returns
returns g c = record {
  filtered = λ f t v test says h. filter_same _ test f says t v h;
  kept = λ f h x t v r k. kept_first _ f h x t v r k;
  dropped = λ f h x t v r k. dropped_first _ f h x t v r k;
}
