use Rattle.std.proofs.Common.{◌++◌, take}
use Rattle.std.proofs.KnownBytes.{Appends-trans}
use Rattle.script_language.proofs.Pieces.{done_with_piece}
use Rattle.script_language.proofs.buffer.write_whole.Goals as goal

pub loop-rest-preserved : goal.loop-rest-preserved
loop-rest-preserved g c =
    let (done, split, written) = c.loop-rest.invariant in
    let rest = c.loop-rest.rest.now in
    let count = c.in-Ok.count in (
      done ++ take count rest,
      done_with_piece _ done rest count split,
      Appends-trans _ _ _ _ _ written c.in-Ok.ensures.bytes,
    )
