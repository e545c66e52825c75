use Rattle.std.proofs.Common.{ap, ◌∙◌}
use Rattle.c_model.specs.AfterEvents.{settled_after_answer}
use Rattle.omp_board.specs.Keeping.{kept_nothing}
use Rattle.omp_board.specs.Tasks.{one_step_less}
use Rattle.omp_board.proofs.NoCode.{none_kept, none_past, unanswered}
use Rattle.omp_board.proofs.Seen.{gone, moment_found}
use Rattle.omp_board.proofs.tasks.Tasks.give.Goals as goal

pub returns-in_default : goal.returns-in_default
returns-in_default c =
    absurd (unanswered c.args.self.now c.args.task (none_past c.self.inside.code c.self.inside.list.items c.self.inside.cells _ c.args.self.now c.self.view_is c.args.task c.in_default.ensures.item.3) c.args.answer c.requires.asked)

pub returns-in_default-control : goal.returns-in_default-control
returns-in_default-control c =
    absurd (unanswered c.args.self.now c.args.task (none_kept c.self.inside.code c.self.inside.list.items c.self.inside.cells _ c.args.self.now c.self.view_is c.args.task c.in-Some.kept.now (c.in-Some.ensures.item.3.1 kept_nothing) c.in_default-control.is) c.args.answer c.requires.asked)

pub returns : goal.returns
returns c =
    let found = c.in-Some.ensures.item.3.1 kept_nothing in
    let before = moment_found c.self.inside.code c.self.inside.list.items c.self.inside.cells _ c.args.self.now c.self.view_is c.args.task c.in-Some.kept.now found c.in-Some-control.control c.give.new.self c.give.new.cells c.in-Some-control.is in
    gone c.self.inside.code c.self.inside.list.items c.self.inside.cells _ c.args.self.now c.self.view_is c.args.task c.in-Some.kept.now found c.in-Some-control.control c.give.new.self c.give.new.cells c.in-Some-control.is _ one_step_less
    (c.give.ensures.went ∙ ap (settled_after_answer c.args.answer) before)
