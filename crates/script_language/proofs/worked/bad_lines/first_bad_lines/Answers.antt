use Rattle.std.proofs.Common.{arith, refl, codes, [], ◌∷◌}
use Rattle.inlinable_string.specs.declared.run.Command.TheVariants.{Pop}
use Rattle.script_language.proofs.BadLines.{first_bad}
use Rattle.inlinable_string.specs.declared.run.Command.{Command}
use Rattle.script_language.specs.Line.{IsLine}
use Rattle.script_language.proofs.worked.bad_lines.first_bad_lines.Goals as goal

pop_with_a_space : (command : Command) → ¬ (IsLine (codes "pop ") command)
pop_with_a_space command = grind arith

pub returns-clause-first : goal.returns-clause-first
returns-clause-first c =
    first_bad [] [] (codes "pop" ∷ []) (codes "pop ") tt (λ is. cc) pop_with_a_space

pub returns-clause-third : goal.returns-clause-third
returns-clause-third c =
    first_bad (codes "pop" ∷ [] ∷ []) (Pop ∷ []) (codes "Pop" ∷ []) (codes "pop ")
    ((_, refl, refl), tt) (λ is. cc) pop_with_a_space
