use Rattle.script_language.proofs.laws.refused_memory_becomes_its_fault.Goals as goal

pub returns-clause-error : goal.returns-clause-error
returns-clause-error g c error fault = (λ is. is, λ is. is)

pub returns-clause-failed : goal.returns-clause-failed
returns-clause-failed g c failed fault = (λ is. is, λ is. is)
