use Rattle.omp_model.proofs.MadeRuns.{made-after}
use Rattle.omp_model.proofs.laws.what_a_run_names_was_made.Goals as goal

pub returns : goal.returns
returns c = λ run history there legal. made-after run history there
