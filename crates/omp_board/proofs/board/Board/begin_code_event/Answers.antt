use Rattle.std.proofs.Common.{◌≤◌, sym, ap, subst}
use Rattle.c_syntax.specs.language.Numbered.{tree_at}
use Rattle.c_model.specs.declared.question.Ask.{Ask}
use Rattle.c_model.specs.Task.Outcome.{Asks, Limits, Traps}
use Rattle.omp_model.specs.MadeWorld.{IsMadeWorld}
use Rattle.omp_model.specs.Members.{current}
use Rattle.omp_model.proofs.MadeRuns.{past-made}
use Rattle.omp_board.specs.Board.{BoardView}
use Rattle.omp_board.specs.Answering.{IsSettled}
use Rattle.omp_board.proofs.ToldFree.{AsksNoLock, come_past, goes_past, going_past, past_settled, some_comes, went_past}
use Rattle.omp_board.proofs.board.Board.begin_code_event.Goals as goal

pub come_to-requires-clause-comes : goal.come_to-requires-clause-comes
come_to-requires-clause-comes c =
    come_past c.args.self.now c.look.new.self c.args.thread c.in-Event.point c.in-Event.node (c.in-Event.ensures.still tt) c.in-Event.ensures.outcome
    (some_comes c.args.self.now.world c.args.thread c.requires.comes) c.in-Event.ensures.named

pub come_to-requires-clause-made : goal.come_to-requires-clause-made
come_to-requires-clause-made c =
    subst (λ (now : BoardView). IsMadeWorld now.world) (sym (c.in-Event.ensures.still tt)) (past-made c.args.self.now.world c.args.thread c.requires.made)

pub come_to_test-requires-clause-settled : goal.come_to_test-requires-clause-settled
come_to_test-requires-clause-settled c =
    subst (λ (now : BoardView). IsSettled now.world c.args.thread) (sym (c.in-Ask-LockFree-default.ensures.still tt)) (past_settled c.args.self.now.world c.args.thread)

pub come_to_test-requires-clause-some : goal.come_to_test-requires-clause-some
come_to_test-requires-clause-some c =
    subst (λ (now : BoardView). 1 ≤ current now.world c.args.thread) (sym (c.in-Ask-LockFree-default.ensures.still tt)) (some_comes c.args.self.now.world c.args.thread c.requires.comes)

pub come_to_test-requires-clause-made : goal.come_to_test-requires-clause-made
come_to_test-requires-clause-made c =
    subst (λ (now : BoardView). IsMadeWorld now.world) (sym (c.in-Ask-LockFree-default.ensures.still tt)) (past-made c.args.self.now.world c.args.thread c.requires.made)

pub returns-in-Event-clause-going : goal.returns-in-Event-clause-going
returns-in-Event-clause-going c =
    went_past c.args.self.now c.look.new.self c.args.thread c.in-Event.point c.in-Event.node (c.in-Event.ensures.still tt) c.in-Event.ensures.outcome c.come_to.result c.come_to.new.self.world c.come_to.ensures.going

pub returns-in-Trap-clause-going : goal.returns-in-Trap-clause-going
returns-in-Trap-clause-going c =
    (going_past c.args.self.now.program c.args.self.now.world c.args.thread (Traps c.in-Trap.number) c.in-Trap.ensures.outcome tt, ap (λ (now : BoardView). now.world) (c.in-Trap.ensures.still tt))

pub returns-in-Limit-clause-going : goal.returns-in-Limit-clause-going
returns-in-Limit-clause-going c =
    (going_past c.args.self.now.program c.args.self.now.world c.args.thread (Limits c.in-Limit.number) c.in-Limit.ensures.outcome tt, ap (λ (now : BoardView). now.world) (c.in-Limit.ensures.still tt))

pub unreachable-requires : goal.unreachable-requires
unreachable-requires c =
    let none = subst (λ (asked : Ask). AsksNoLock (Asks asked (tree_at c.args.self.now.program.trees c.in-Ask-Chunk-default.field-1))) (sym c.in-Ask-Chunk-default.field-0-is) tt in
    goes_past c.args.self.now.program c.args.self.now.world c.args.thread _ c.in-Ask-Chunk-default.ensures.outcome none c.requires.comes

pub unreachable-requires-in-Ask-Section-default : goal.unreachable-requires-in-Ask-Section-default
unreachable-requires-in-Ask-Section-default c =
    let none = subst (λ (asked : Ask). AsksNoLock (Asks asked (tree_at c.args.self.now.program.trees c.in-Ask-Section-default.field-1))) (sym c.in-Ask-Section-default.field-0-is) tt in
    goes_past c.args.self.now.program c.args.self.now.world c.args.thread _ c.in-Ask-Section-default.ensures.outcome none c.requires.comes

pub unreachable-requires-in-Quiet : goal.unreachable-requires-in-Quiet
unreachable-requires-in-Quiet c = goes_past c.args.self.now.program c.args.self.now.world c.args.thread _ c.in-Quiet.ensures.outcome tt c.requires.comes

pub unreachable-requires-in-Ended : goal.unreachable-requires-in-Ended
unreachable-requires-in-Ended c = goes_past c.args.self.now.program c.args.self.now.world c.args.thread _ c.in-Ended.ensures.outcome tt c.requires.comes
