use Rattle.std.proofs.Common.{◌-◌, rules, length, subst}
use Rattle.std.specs.Io.KnownBytes.{Consumes}
use Rattle.std.proofs.KnownBytes.{Consumes-trans}
use Rattle.script_language.proofs.Pieces.{filled_with_piece}
use Rattle.script_language.proofs.input.fill.Goals as goal

pub loop-filled-preserved : goal.loop-filled-preserved
loop-filled-preserved g c =
    let filled = c.loop-filled.filled in
    let room = c.loop-filled.room in
    let before = c.loop-filled.invariant in
    let read = c.in-Ok.ensures in
    let joined = filled_with_piece filled (length room - filled) c.in-Ok.count room c.read.new.buf
    before.1 read.bound.0 in (
      search rules,
      search rules,
      subst (Consumes _ _) joined (Consumes-trans _ _ _ _ _ before.2 read.bytes.0),
    )
