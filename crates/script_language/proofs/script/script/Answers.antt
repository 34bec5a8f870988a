-- What wrong bodies leave open has an answer that fails soon, and is not searched for to the end.
use Rattle.std.proofs.Common.{rules, refl, arith}
use Rattle.script_language.proofs.Fronts.{unchanged_on_error}
use Rattle.script_language.proofs.script.script.Goals as goal

pub returns-in_err-start-clause-part : goal.returns-in_err-start-clause-part
returns-in_err-start-clause-part g c = search rules steps 2000000

pub returns-in_err-start-clause-argument_first : goal.returns-in_err-start-clause-argument_first
returns-in_err-start-clause-argument_first g c = λ _. refl

pub returns-in_err-start-clause-unwritten : goal.returns-in_err-start-clause-unwritten
returns-in_err-start-clause-unwritten g c = unchanged_on_error _ _ _

pub returns-in_err-bytes-clause-part : goal.returns-in_err-bytes-clause-part
returns-in_err-bytes-clause-part g c = search rules steps 2000000

pub returns-in_err-bytes-clause-bad_argument : goal.returns-in_err-bytes-clause-bad_argument
returns-in_err-bytes-clause-bad_argument g c = search rules steps 1000000

pub returns-in_err-bytes-clause-unwritten : goal.returns-in_err-bytes-clause-unwritten
returns-in_err-bytes-clause-unwritten g c = unchanged_on_error _ _ _

pub returns-in_default-clause-unwritten : goal.returns-in_default-clause-unwritten
returns-in_default-clause-unwritten g c = λ _. refl

pub returns-in_err-room-clause-unwritten : goal.returns-in_err-room-clause-unwritten
returns-in_err-room-clause-unwritten g c = unchanged_on_error _ _ _

pub commands_of-requires-clause-room : goal.commands_of-requires-clause-room
commands_of-requires-clause-room g c =
    omega (arith, c.in_ok-room.ensures.len, c.as_mut_slice.ensures.len)

pub returns-in_err-commands-clause-unwritten : goal.returns-in_err-commands-clause-unwritten
returns-in_err-commands-clause-unwritten g c = unchanged_on_error _ _ _

pub returns-clause-ran : goal.returns-clause-ran
returns-clause-ran g c = search rules steps 3000000

pub returns-clause-part : goal.returns-clause-part
returns-clause-part g c = search rules steps 3000000

pub returns-clause-unwritten : goal.returns-clause-unwritten
returns-clause-unwritten g c = c.run_from.ensures.unwritten
