use Rattle.std.proofs.Common.{ap, ◌∙◌}
use Rattle.c_model.specs.AfterEvents.{settled_after_event}
use Rattle.c_model.specs.Task.{Moment}
use Rattle.omp_board.specs.Keeping.{kept_nothing}
use Rattle.omp_board.specs.Tasks.{one_pass_less}
use Rattle.omp_board.proofs.NoCode.{none_kept, none_past, uneventful}
use Rattle.omp_board.proofs.Seen.{gone, moment_found}
use Rattle.omp_board.proofs.tasks.Tasks.pass.Goals as goal

pub returns-in_default : goal.returns-in_default
returns-in_default c =
    absurd (uneventful c.args.self.now c.args.task (none_past c.self.inside.code c.self.inside.list.items c.self.inside.cells _ c.args.self.now c.self.view_is c.args.task c.in_default.ensures.item.3) c.args.point c.args.node c.requires.event)

pub returns-in_default-control : goal.returns-in_default-control
returns-in_default-control c =
    absurd (uneventful c.args.self.now c.args.task (none_kept c.self.inside.code c.self.inside.list.items c.self.inside.cells _ c.args.self.now c.self.view_is c.args.task c.in-Some.kept.now (c.in-Some.ensures.item.3.1 kept_nothing) c.in_default-control.is) c.args.point c.args.node c.requires.event)

pub returns : goal.returns
returns c =
    let found = c.in-Some.ensures.item.3.1 kept_nothing in
    let before = moment_found c.self.inside.code c.self.inside.list.items c.self.inside.cells _ c.args.self.now c.self.view_is c.args.task c.in-Some.kept.now found c.in-Some-control.control c.passed.new.self c.self.inside.cells c.in-Some-control.is in
    gone c.self.inside.code c.self.inside.list.items c.self.inside.cells _ c.args.self.now c.self.view_is c.args.task c.in-Some.kept.now found c.in-Some-control.control c.passed.new.self c.self.inside.cells c.in-Some-control.is _ one_pass_less
    (λ i. record { task = (c.passed.ensures.went ∙ ap (λ (now : Moment). settled_after_event c.args.point c.args.executes now.task) before) i; store = (before i).store })
