use Rattle.std.proofs.Common.{◌≡◌, refl, sym, ap, ◌∙◌}
use Rattle.c_model.specs.declared.view.View.{View}
use Rattle.c_model.specs.Task.{Task}
use Rattle.c_model.specs.Upcoming.{upcoming_among, upcoming_of}
use Rattle.c_steps.specs.ControlView.{task_at}
use Rattle.c_steps.proofs.Giving.{nothing_past}
use Rattle.omp_board.specs.Tasks.{code_in}
use Rattle.omp_board.proofs.tasks.Tasks.standing.Goals as goal

abbrev first : View
first = record { index = 0; team = 1; max = 1 }

-- nothing is gone past
stands : (code task : Task) → code.todo ≡ task.todo → upcoming_of first code ≡ upcoming_among task.todo
stands code task same = ap upcoming_among (nothing_past first code.todo refl ∙ same)

pub returns-in-Some : goal.returns-in-Some
returns-in-Some c = sym (c.in-Some.ensures c.code_of.result.0.now first) ∙ stands (task_at c.code_of.result.0.now c.code_of.result.1.now) (code_in c.args.self.now c.args.task) c.code_of.ensures.todo

pub returns-in-None : goal.returns-in-None
returns-in-None c = c.upcoming.ensures ∙ stands (task_at c.code_of.result.0.now c.code_of.result.1.now) (code_in c.args.self.now c.args.task) c.code_of.ensures.todo
