use Rattle.std.proofs.Common.{rules}
use Rattle.script_language.proofs.script.run_from.Goals as goal

pub returns-in_err-text-in-Heap-clause-fault : goal.returns-in_err-text-in-Heap-clause-fault
returns-in_err-text-in-Heap-clause-fault g c = search rules steps 1000000

pub returns-in_ok-text-in-Heap-clause-ran : goal.returns-in_ok-text-in-Heap-clause-ran
returns-in_ok-text-in-Heap-clause-ran g c = search rules steps 1000000

pub returns-in_ok-text-in-Heap-clause-part : goal.returns-in_ok-text-in-Heap-clause-part
returns-in_ok-text-in-Heap-clause-part g c = search rules steps 1000000
