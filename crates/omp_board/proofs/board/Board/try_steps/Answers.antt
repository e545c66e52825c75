use Rattle.std.proofs.Common.{sym, subst, ◌∙◌, arith}
use Rattle.omp_model.specs.Members.{view_of}
use Rattle.omp_board.specs.Board.{BoardView, HasTurn, HaveStepped, IsFree}
use Rattle.omp_board.proofs.TriedSteps.{board, made_all, tasks_kept}
use Rattle.omp_board.proofs.board.Board.try_steps.Goals as goal

pub returns-in-Some-clause-made : goal.returns-in-Some-clause-made
returns-in-Some-clause-made c =
    let inside = c.self.inside in
    let old : BoardView = board inside.threads.items inside.pool inside.regions inside.locks inside.tasks in
    let free : IsFree old.world c.args.thread c.in-Some.task = subst (λ (board : BoardView). IsFree board.world c.args.thread c.in-Some.task) (sym c.self.view_is) c.in-Some.ensures in
    let turn : HasTurn old.room old.world c.args.thread = subst (λ (board : BoardView). HasTurn board.room board.world c.args.thread) (sym c.self.view_is) c.requires.room.turn in
    subst (λ (before : BoardView). HaveStepped c.try_steps.result before c.args.thread (board inside.threads.items inside.pool inside.regions inside.locks c.try_steps.new.self)) c.self.view_is
    (made_all inside.threads.items inside.pool inside.regions inside.locks c.args.thread c.in-Some.task c.args.view c.try_steps.result inside.tasks c.try_steps.new.self
    (c.requires.view ∙ sym (λ i. view_of (c.self.view_is i).world c.args.thread)) free turn c.try_steps.ensures.made)

pub invariant_of-self : goal.invariant_of-self
invariant_of-self c =
    let kept = tasks_kept c.try_steps.result c.self.inside.tasks c.try_steps.new.self c.args.view c.in-Some.task c.try_steps.ensures.made in
    record {
      some = c.self.invariant.some;
      few = c.self.invariant.few;
      one = omega (arith, kept, c.self.invariant.one);
      room = omega (arith, kept, c.self.invariant.room);
      places = c.self.invariant.places;
    }
