use Rattle.work_laws.proofs.ToldSections.{sections-in-order}
use Rattle.work_laws.proofs.laws.each_section_once_in_a_run.Goals as goal

pub returns : goal.returns
returns c = λ run history r n construct some few checked formed legal own one is ended.
    sections-in-order run history r n construct some few checked formed legal own one is ended
