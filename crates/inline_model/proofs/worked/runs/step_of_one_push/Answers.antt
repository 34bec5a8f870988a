use Rattle.std.proofs.Common.{inl, inr, arith}
use lib.Utf8.{encode}
use Rattle.inline_model.proofs.worked.runs.step_of_one_push.Goals as goal

pub returns-clause-refused : goal.returns-clause-refused
unfolding encode
returns-clause-refused c = λ h. elim (h.legal 40 (omega arith) (omega arith)).answer [
  | inl same ↦ cc
  | inr refused ↦ refused.1 (inr (inr (omega arith)))
]
