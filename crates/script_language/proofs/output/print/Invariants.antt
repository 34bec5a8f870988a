-- The lines of the replies so far are written, or wait.
use Rattle.std.proofs.Common.{◌≡◌, ℕ, List, [], ◌++◌, drop}
use Rattle.std.specs.List.{flat_map}
use Rattle.script_language.specs.Output.{reply_line, IsGathered}
use Rattle.script_language.proofs.output.print.Given as goal

abbrev pub invariant-loop-reply : goal.invariant-loop-reply
invariant-loop-reply g l = (done : List ℕ)
    × (done ++ flat_map reply_line (drop l.reply-index l.replies) ≡ flat_map reply_line l.replies)
    × IsGathered (g.W.Write.contents l.initial.out) (g.W.Write.contents l.out) [] done l.buffer
