use Rattle.guard_laws.proofs.DealtRuns.{chunk-given, section-given}
use Rattle.guard_laws.proofs.laws.deals_fit_the_asker.Goals as goal

pub returns-clause-chunk : goal.returns-clause-chunk
returns-clause-chunk c = λ run history t steps construct some few checked formed legal is.
    chunk-given run history t steps construct some few checked formed legal is

pub returns-clause-section : goal.returns-clause-section
returns-clause-section c = λ run history t steps construct some few checked formed legal is.
    section-given run history t steps construct some few checked formed legal is
