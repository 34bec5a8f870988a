-- What a fault ends the program with.
use Rattle.std.specs.Prelude.{ℕ, List, ◌++◌, codes, decimal}
use Rattle.script_language.specs.declared.fault.ScriptFault.{ScriptFault}
use Rattle.script_language.specs.declared.fault.ScriptFault.TheVariants.{BadArgument, TooLong, NotUtf8, BadLine, NoMemory, Read, Write}

-- the exit status: 2 where the argument or the script is at fault, 1 where the surroundings are
abbrev pub status_of : ScriptFault → ℕ
status_of BadArgument = 2
status_of TooLong = 2
status_of NotUtf8 = 2
status_of (BadLine number) = 2
status_of NoMemory = 1
status_of Read = 1
status_of Write = 1

-- the line that is printed of it
abbrev pub line_of : ScriptFault → List ℕ
line_of BadArgument = codes "bad argument"
line_of TooLong = codes "input too long"
line_of NotUtf8 = codes "input is not utf-8"
line_of (BadLine number) = codes "line " ++ decimal number ++ codes ": bad command"
line_of NoMemory = codes "no memory"
line_of Read = codes "read fault"
line_of Write = codes "write fault"
