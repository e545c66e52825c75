use Rattle.std.proofs.Common.{ap}
use Rattle.omp_board.specs.Board.{BoardView}
use Rattle.omp_board.proofs.Holding.{none_is}
use Rattle.omp_board.proofs.board.Board.next_allowed.Goals as goal

pub returns-then-is_none : goal.returns-then-is_none
returns-then-is_none c =
    let pool = c.self.inside.pool in
    none_is c.args.self.now.world c.args.thread pool.tasks pool.ready c.current_region-region.result (ap (λ (board : BoardView). board.world.pool.tasks) c.self.view_is) (ap (λ (board : BoardView). board.world.pool.ready) c.self.view_is) c.current_region-region.ensures
    c.newest_allowed.result c.newest_allowed.ensures c.if-is_none.ensures
