use Rattle.std.proofs.Common.{◌≡◌, sym, ap, ◌∙◌, subst}
use Rattle.c_model.specs.Step.{settled_task}
use Rattle.c_steps.specs.declared.next.Next.TheVariants as next
use Rattle.omp_model.specs.Members.{code_of, moment_of, view_of}
use Rattle.omp_model.specs.Silent.{Goes}
use Rattle.omp_board.specs.Board.{BoardView}
use Rattle.omp_board.proofs.Silence.{is_other, no_event, silent_by, turn_replied, view_replied, world_replied}
use Rattle.omp_board.proofs.ToldFree.{past_settled}
use Rattle.omp_board.proofs.board.Board.step.Goals as goal

pub answer-requires-clause-settled : goal.answer-requires-clause-settled
answer-requires-clause-settled c =
    subst (λ (board : BoardView). settled_task (view_of board.world c.args.thread) (code_of board.world c.args.thread) ≡ code_of board.world c.args.thread)
    (sym (c.in-Ask.ensures.still tt c.requires.view)) (past_settled c.args.self.now.world c.args.thread)

pub unreachable-requires : goal.unreachable-requires
unreachable-requires c =
    no_event c.args.self.now.program c.args.self.now.world c.args.thread c.args.view c.requires.view c.advance.result (moment_of c.advance.new.self.world c.args.thread) c.advance.ensures.outcome c.requires.steps
    (is_other c.advance.result c.in-Event.is)

pub returns-in-Ask-clause-silence : goal.returns-in-Ask-clause-silence
returns-in-Ask-clause-silence c =
    silent_by c.args.self.now.program c.args.self.now.world c.args.thread c.args.view c.requires.view (next.Ask c.in-Ask.ask c.in-Ask.node) (moment_of c.advance.new.self.world c.args.thread) c.in-Ask.ensures.outcome
    ∙ ap Goes (world_replied c.args.self.now c.advance.new.self c.answer.new.self c.args.thread c.in-Ask.node c.in-Ask.ask (c.in-Ask.ensures.still tt c.requires.view) c.answer.ensures)

pub returns-in-Ask-clause-turn : goal.returns-in-Ask-clause-turn
returns-in-Ask-clause-turn c =
    turn_replied c.args.self.now c.advance.new.self c.answer.new.self c.args.thread c.in-Ask.node c.in-Ask.ask (c.in-Ask.ensures.still tt c.requires.view) c.answer.ensures c.requires.room.turn

pub returns-in-Ask-clause-view : goal.returns-in-Ask-clause-view
returns-in-Ask-clause-view c =
    c.requires.view ∙ view_replied c.args.self.now c.advance.new.self c.answer.new.self c.args.thread c.in-Ask.node c.in-Ask.ask (c.in-Ask.ensures.still tt c.requires.view) c.answer.ensures

pub returns-in-Trap-clause-silence : goal.returns-in-Trap-clause-silence
returns-in-Trap-clause-silence c = (
  silent_by c.args.self.now.program c.args.self.now.world c.args.thread c.args.view c.requires.view (next.Trap c.in-Trap.number) (moment_of c.advance.new.self.world c.args.thread) c.in-Trap.ensures.outcome,
  ap (λ (board : BoardView). board.world) (c.in-Trap.ensures.still tt c.requires.view),
)

pub returns-in-Limit-clause-silence : goal.returns-in-Limit-clause-silence
returns-in-Limit-clause-silence c = (
  silent_by c.args.self.now.program c.args.self.now.world c.args.thread c.args.view c.requires.view (next.Limit c.in-Limit.number) (moment_of c.advance.new.self.world c.args.thread) c.in-Limit.ensures.outcome,
  ap (λ (board : BoardView). board.world) (c.in-Limit.ensures.still tt c.requires.view),
)

pub returns-in-Quiet-clause-silence : goal.returns-in-Quiet-clause-silence
returns-in-Quiet-clause-silence c =
    silent_by c.args.self.now.program c.args.self.now.world c.args.thread c.args.view c.requires.view next.Quiet (moment_of c.advance.new.self.world c.args.thread) c.in-Quiet.ensures.outcome
    ∙ ap Goes (ap (λ (board : BoardView). board.world) (sym c.advance.ensures.rest))
