use Rattle.std.proofs.Common.{IfSome, refl, sym, ap, ◌∙◌, subst, arith}
use Rattle.c_steps.specs.OfProgram.{IsMadeFor}
use Rattle.omp_board.specs.declared.task.Task.{Task}
use Rattle.omp_board.specs.Tasks.{TasksView}
use Rattle.omp_board.proofs.Kept.{kept_more}
use Rattle.omp_board.proofs.tasks.Tasks.add_explicit.Goals as goal

pub invariant_of-self : goal.invariant_of-self
invariant_of-self c =
    let made = subst (λ (task : Task). IfSome task.control (IsMadeFor c.self.inside.code)) (sym c.task_with.ensures) c.begin_explicit-task.ensures.made in
    let some = ap (λ (view : TasksView). view.room.tasks) c.self.view_is in (
      kept_more c.self.inside.code c.self.inside.list.items _ c.self.inside.blanks.spare.items _ c.self.invariant.0 c.task_with.result made _ _ _ (omega (arith, some, c.requires.room))
          (c.push.ensures.items ∙ rw c.unwrap.ensures refl) c.push.ensures.capacity c.begin_explicit-task.ensures.blanks,
      c.self.invariant.1,
    )
