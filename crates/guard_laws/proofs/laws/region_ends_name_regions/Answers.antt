use Rattle.guard_laws.proofs.Guards.{end-names}
use Rattle.guard_laws.proofs.laws.region_ends_name_regions.Goals as goal

pub returns : goal.returns
returns c = λ run history t r codeptr some few checked formed legal goes happens. end-names run history t r some few checked formed legal goes codeptr happens
