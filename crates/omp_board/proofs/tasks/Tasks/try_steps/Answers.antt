use Rattle.std.proofs.Common.{◌∙◌, ap}
use Rattle.omp_board.specs.Keeping.{kept_nothing}
use Rattle.omp_board.specs.Tasks.{TasksView}
use Rattle.omp_board.proofs.Kept.{kept_stepped}
use Rattle.omp_board.proofs.Seen.{have_stepped, passes_left, spare_left}
use Rattle.omp_board.proofs.tasks.Tasks.try_steps.Goals as goal

pub returns-clause-made : goal.returns-clause-made
returns-clause-made c =
    have_stepped c.self.inside.code c.self.inside.list.items c.self.inside.cells _ c.args.self.now c.self.view_is c.args.task c.in-Some.kept.now (c.in-Some.ensures.item.3.1 kept_nothing)
    c.in-Some-control.control c.in-Some-control.is c.in-Some.ensures.item.3.0 c.try_steps-made.result c.try_steps-made.new.self c.try_steps-made.new.cells c.args.view c.try_steps-made.ensures.tried

pub invariant_of-self-2 : goal.invariant_of-self-2
invariant_of-self-2 c =
    let control = c.in-Some-control.control in
    let made = c.try_steps-made in (
      kept_stepped c.self.inside.code c.self.inside.list.items _ _ _ c.self.invariant.0 c.args.task made.result c.in-Some.kept.now control made.new.self (c.in-Some.ensures.item.3.1 kept_nothing) c.in-Some-control.is c.in-Some.ensures.item.3.0
          (ap (λ (view : TasksView). view.room.task) c.self.view_is ∙ c.requires.room.of_task)
          (spare_left c.self.inside.code c.args.view made.result control made.new.self c.self.inside.cells made.new.cells made.ensures.tried)
          (passes_left c.self.inside.code c.args.view made.result control made.new.self c.self.inside.cells made.new.cells made.ensures.tried) made.ensures.made,
      c.self.invariant.1,
    )
