use Rattle.std.proofs.Common.{ap, ◌∙◌}
use Rattle.omp_board.specs.Board.{BoardView}
use Rattle.omp_board.proofs.Holding.{next_is}
use Rattle.omp_board.proofs.board.Board.newest_beyond_held.Goals as goal

pub returns : goal.returns
returns c =
    let pool = c.self.inside.pool in
    c.newest_allowed.ensures ∙
    next_is c.args.self.now.world c.args.thread pool.tasks pool.ready c.args.region (ap (λ (board : BoardView). board.world.pool.tasks) c.self.view_is) (ap (λ (board : BoardView). board.world.pool.ready) c.self.view_is) c.requires
    _ (c.hold-count.ensures.tasks)
