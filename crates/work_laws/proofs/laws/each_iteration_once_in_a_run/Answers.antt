use Rattle.work_laws.proofs.Once.{iterations-once, sections-all}
use Rattle.work_laws.proofs.laws.each_iteration_once_in_a_run.Goals as goal

pub returns-clause-iterations : goal.returns-clause-iterations
returns-clause-iterations c = λ run history r n at count iteration start step how some few checked formed legal is ended.
    iterations-once run history r n some few checked formed legal at start count step how is ended iteration

pub returns-clause-sections : goal.returns-clause-sections
returns-clause-sections c = λ run history r n at count some few checked formed legal is ended.
    sections-all run history r n some few checked formed legal at count is ended
