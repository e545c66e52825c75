use Rattle.omp_model.proofs.Guards.{member-after, member-walk, team-after}
use Rattle.omp_model.proofs.laws.threads_with_tasks_are_members.Goals as goal

pub returns-clause-after_entries : goal.returns-clause-after_entries
returns-clause-after_entries c = λ run history t there legal some. member-after run history there t some

pub returns-clause-after_steps : goal.returns-clause-after_steps
returns-clause-after_steps c = λ run history t count there legal some. member-walk run history there t count some

pub returns-clause-teams : goal.returns-clause-teams
returns-clause-teams c = λ run history r there fits legal one. team-after run history there r fits one
