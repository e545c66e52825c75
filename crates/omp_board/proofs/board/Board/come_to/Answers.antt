use Rattle.std.proofs.Common.{◌<◌, ◌∙◌, sym, subst}
use Rattle.c_model.specs.Task.{Task as Code}
use Rattle.c_syntax.specs.language.Numbered.{TreeView}
use Rattle.c_steps.specs.Passing.{IsEventOfNext}
use Rattle.omp_model.specs.Members.{code_of}
use Rattle.omp_board.specs.Board.{run_of}
use Rattle.omp_board.proofs.AtEvents.{code_behind, happens, may_create}
use Rattle.omp_board.proofs.board.Board.come_to.Goals as goal

pub take_effect-requires-clause-creates : goal.take_effect-requires-clause-creates
take_effect-requires-clause-creates c = may_create c.args.self.now.program c.args.self.now.world c.args.thread c.args.point c.args.node c.requires.comes

pub go_past-requires-clause-event : goal.go_past-requires-clause-event
go_past-requires-clause-event c =
    let same = code_behind c.args.self.now.world c.args.thread c.requires.made c.requires.comes.some (run_of c.args.self.now.program) c.args.point c.take_effect.new.self.world c.in-Ok.ensures.effect.1 in
    subst (λ (program : TreeView). IsEventOfNext program c.args.point c.args.node (code_of c.take_effect.new.self.world c.args.thread).todo) (sym c.take_effect.ensures.kept.program)
    (subst (λ (code : Code). IsEventOfNext c.args.self.now.program c.args.point c.args.node code.todo) (sym same.code) c.requires.comes.event)

pub go_past-requires-clause-room : goal.go_past-requires-clause-room
go_past-requires-clause-room c =
    let same = code_behind c.args.self.now.world c.args.thread c.requires.made c.requires.comes.some (run_of c.args.self.now.program) c.args.point c.take_effect.new.self.world c.in-Ok.ensures.effect.1 in
    record {
      of_task = c.take_effect.ensures.kept.task ∙ (c.requires.room.passing.of_task ∙ sym same.current);
      passes = subst (λ passes. 0 < passes) (sym c.take_effect.ensures.kept.passes) c.requires.room.passing.passes;
    }

pub returns-in-Ok-clause-going : goal.returns-in-Ok-clause-going
returns-in-Ok-clause-going c =
    let effect = c.in-Ok.ensures.effect in
    let same = code_behind c.args.self.now.world c.args.thread c.requires.made c.requires.comes.some (run_of c.args.self.now.program) c.args.point c.take_effect.new.self.world effect.1 in
    happens c.args.self.now.program c.args.self.now.world c.take_effect.new.self.world c.go_past.new.self.world c.args.thread c.args.point c.event_at-event.result c.executes-executes.result
    c.requires.comes.settled effect.0 c.event_at-event.ensures c.executes-executes.ensures effect.1 same c.go_past.ensures.world
