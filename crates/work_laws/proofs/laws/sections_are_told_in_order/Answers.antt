use Rattle.work_laws.proofs.NextSections.{section-next}
use Rattle.work_laws.proofs.laws.sections_are_told_in_order.Goals as goal

pub returns : goal.returns
returns c = λ run history t steps construct some few checked formed legal arrives is.
    section-next run history t steps construct some few checked formed legal arrives is
