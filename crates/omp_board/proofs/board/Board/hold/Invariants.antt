use Rattle.omp_board.proofs.Holding.{HasHeld}
use Rattle.omp_board.proofs.board.Board.hold.Given as goal

abbrev pub invariant-loop-task : goal.invariant-loop-task
invariant-loop-task l = HasHeld l.self.world l.thread l.task-items l.task-index l.held l.count
