-- The lines so far ask for the commands so far.
use Rattle.std.proofs.Common.{length}
use Rattle.script_language.specs.Script.{bytes_left, lines_of}
use Rattle.script_language.proofs.Scripts.{IsReadTo}
use Rattle.script_language.proofs.script.commands_of.Given as goal

abbrev pub invariant-loop-unread : goal.invariant-loop-unread
invariant-loop-unread l =
    IsReadTo (lines_of l.script) l.unread l.commands.items l.number (length l.room)

abbrev pub decreases-loop-unread : goal.decreases-loop-unread
decreases-loop-unread l = bytes_left l.unread
