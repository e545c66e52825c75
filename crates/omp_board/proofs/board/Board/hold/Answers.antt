use Rattle.omp_board.proofs.Holding.{all_held}
use Rattle.omp_board.proofs.board.Board.hold.Goals as goal

pub returns-clause-tasks : goal.returns-clause-tasks
returns-clause-tasks c =
    all_held c.args.self.now.world c.args.thread c.stack-task-items.result.now c.loop-task.task-index c.loop-task.held c.loop-task.count c.loop-task-test.false c.loop-task.invariant
