use Rattle.std.proofs.Common.{[], refl, arith, codes}
use Rattle.script_language.proofs.worked.lines.lines_of_bytes.Goals as goal

pub returns-clause-two : goal.returns-clause-two
returns-clause-two c = rw c.requires.bytes (
  _,
  refl,
  (
    codes "c3A9",
    refl,
    record {
      hexadecimal = (omega arith, (omega arith, (omega arith, (omega arith, tt))));
      pairs = refl;
      values = refl;
    },
  ),
)

pub returns-clause-none : goal.returns-clause-none
returns-clause-none c = rw c.requires.empty (
  _,
  refl,
  ([], refl, record { hexadecimal = tt; pairs = refl; values = refl }),
)
