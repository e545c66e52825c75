use Rattle.std.proofs.Common.{◌∙◌, sym, ap, subst}
use Rattle.c_steps.specs.declared.next.Next.{Next}
use Rattle.c_steps.specs.Ready.{FitsProgram}
use Rattle.omp_board.specs.Keeping.{kept_nothing}
use Rattle.omp_board.specs.Tasks.{TasksView, moment_in, room_after}
use Rattle.omp_board.proofs.NoCode.{ends, none_kept, none_past, same_view, settled}
use Rattle.omp_board.proofs.Seen.{gone_on, named_so, same_room, stays, stepped}
use Rattle.omp_board.proofs.tasks.Tasks.step.Goals as goal

pub returns-in_default-clause-outcome : goal.returns-in_default-clause-outcome
returns-in_default-clause-outcome c =
    let none = none_past c.self.inside.code c.self.inside.list.items c.self.inside.cells _ c.args.self.now c.self.view_is c.args.task c.in_default.ensures.item.3 in
    ends c.args.self.now c.args.task none c.args.view

pub returns-in_default-clause-still : goal.returns-in_default-clause-still
returns-in_default-clause-still c still =
    let none = none_past c.self.inside.code c.self.inside.list.items c.self.inside.cells _ c.args.self.now c.self.view_is c.args.task c.in_default.ensures.item.3 in
    ap (λ (view : TasksView). moment_in view c.args.task) c.self.view_is ∙ settled c.args.self.now c.args.task none c.args.view

pub returns-in_default-control-clause-outcome : goal.returns-in_default-control-clause-outcome
returns-in_default-control-clause-outcome c =
    let none = none_kept c.self.inside.code c.self.inside.list.items c.self.inside.cells _ c.args.self.now c.self.view_is c.args.task c.in-Some.kept.now (c.in-Some.ensures.item.3.1 kept_nothing) c.in_default-control.is in
    ends c.args.self.now c.args.task none c.args.view

pub returns-in_default-control-clause-still : goal.returns-in_default-control-clause-still
returns-in_default-control-clause-still c still =
    let found = c.in-Some.ensures.item.3.1 kept_nothing in
    let none = none_kept c.self.inside.code c.self.inside.list.items c.self.inside.cells _ c.args.self.now c.self.view_is c.args.task c.in-Some.kept.now found c.in_default-control.is in
    let same = same_view c.self.inside.code c.self.inside.list.items c.self.inside.cells _ c.args.self.now c.self.view_is c.args.task c.in-Some.kept.now found c.in_default-control.is in
    ap (λ (view : TasksView). moment_in view c.args.task) same ∙ settled c.args.self.now c.args.task none c.args.view

pub returns-in-Quiet-clause-outcome : goal.returns-in-Quiet-clause-outcome
returns-in-Quiet-clause-outcome c =
    stepped c.self.inside.code c.self.inside.list.items c.self.inside.cells _ c.args.self.now c.self.view_is c.args.task c.in-Some.kept.now (c.in-Some.ensures.item.3.1 kept_nothing)
    c.in-Some-control.control c.advance-next.new.self c.advance-next.new.cells c.in-Some-control.is c.in-Some.ensures.item.3.0 c.advance-next.result c.args.view c.advance-next.ensures.step

pub returns-in-Quiet-clause-rest : goal.returns-in-Quiet-clause-rest
returns-in-Quiet-clause-rest c =
    gone_on c.self.inside.code c.self.inside.list.items c.self.inside.cells _ c.args.self.now c.self.view_is c.args.task c.in-Some.kept.now (c.in-Some.ensures.item.3.1 kept_nothing)
    c.in-Some-control.control c.advance-next.new.self c.advance-next.new.cells c.in-Some-control.is c.in-Some.ensures.item.3.0 (room_after c.advance-next.result) _
    (ap (λ (next : Next). room_after next c.self.inside.room) (sym c.in-Quiet.is))

pub returns-in_default-next : goal.returns-in_default-next
returns-in_default-next c =
    let found = c.in-Some.ensures.item.3.1 kept_nothing in
    let within = c.in-Some.ensures.item.3.0 in
    record {
      outcome =
          stepped c.self.inside.code c.self.inside.list.items c.self.inside.cells _ c.args.self.now c.self.view_is c.args.task c.in-Some.kept.now found
          c.in-Some-control.control c.advance-next.new.self c.advance-next.new.cells c.in-Some-control.is within c.advance-next.result c.args.view c.advance-next.ensures.step;
      rest =
          gone_on c.self.inside.code c.self.inside.list.items c.self.inside.cells _ c.args.self.now c.self.view_is c.args.task c.in-Some.kept.now found
          c.in-Some-control.control c.advance-next.new.self c.advance-next.new.cells c.in-Some-control.is within (room_after c.advance-next.result) _
          (sym (same_room c.advance-next.result _ c.in_default-next.not-Quiet));
      still =
          stays c.self.inside.code c.self.inside.list.items c.self.inside.cells _ c.args.self.now c.self.view_is c.args.task c.in-Some.kept.now found
          c.in-Some-control.control c.advance-next.new.self c.advance-next.new.cells c.in-Some-control.is within c.advance-next.result c.args.view c.advance-next.ensures.kept;
      fits = subst (λ (view : TasksView). FitsProgram view.program c.advance-next.result) c.self.view_is c.advance-next.ensures.numbers;
      named =
          named_so c.self.inside.code c.self.inside.list.items c.self.inside.cells _ c.args.self.now c.self.view_is c.args.task c.in-Some.kept.now found
          c.in-Some-control.control c.advance-next.new.self c.advance-next.new.cells c.in-Some-control.is within c.advance-next.result c.advance-next.ensures.named;
    }
