use Rattle.std.proofs.Common.{IfSome, refl, sym, ap, ◌∙◌, subst, arith}
use Rattle.c_steps.specs.OfProgram.{IsMadeFor}
use Rattle.omp_board.specs.declared.task.Task.{Task}
use Rattle.omp_model.specs.EventEffects.{member_code}
use Rattle.omp_model.specs.State.{task_with}
use Rattle.omp_board.specs.Keeping.{seen_task}
use Rattle.omp_board.specs.Tasks.{TasksView, code_in}
use Rattle.omp_board.proofs.Kept.{kept_more}
use Rattle.omp_board.proofs.Seen.{code_at, one_more_seen}
use Rattle.omp_board.proofs.tasks.Tasks.add_member.Goals as goal

pub invariant_of-self : goal.invariant_of-self
invariant_of-self c =
    let made = subst (λ (task : Task). IfSome task.control (IsMadeFor c.self.inside.code)) (sym c.task_with.ensures) c.begin_member-member.ensures.made in
    let some = ap (λ (view : TasksView). view.room.tasks) c.self.view_is in (
      kept_more c.self.inside.code c.self.inside.list.items _ c.self.inside.blanks.spare.items _ c.self.invariant.0 c.task_with.result made _ _ _ (omega (arith, some, c.requires))
          (c.push.ensures.items ∙ rw c.unwrap.ensures refl) c.push.ensures.capacity c.begin_member-member.ensures.blanks,
      c.self.invariant.1,
    )

pub returns : goal.returns
returns c =
    let code = rw c.deref.ensures.value at c.begin_member-member.ensures.code in
    one_more_seen c.self.inside.code c.self.inside.list.items c.self.inside.cells _ c.args.self.now c.self.view_is c.task_with.result c.push.new.self.items (member_code (code_in c.args.self.now c.args.parent))
    (c.push.ensures.items ∙ rw c.unwrap.ensures refl)
    (ap (seen_task c.self.inside.code) c.task_with.ensures ∙ ap task_with (code ∙ ap member_code (code_at c.self.inside.code c.self.inside.list.items c.self.inside.cells _ c.args.self.now c.self.view_is c.args.parent)))
