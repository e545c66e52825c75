use Rattle.std.proofs.Common.{sym, subst}
use Rattle.task_pool.specs.Tasks.{MayBeParent}
use Rattle.omp_board.proofs.AtEvents.{parent_made}
use Rattle.omp_board.proofs.board.Board.create.Goals as goal

pub add_explicit-requires-clause-parent : goal.add_explicit-requires-clause-parent
add_explicit-requires-clause-parent c =
    subst (MayBeParent c.args.self.now.world.pool.tasks) (sym c.current-creator.ensures) (parent_made c.args.self.now.world c.args.thread c.requires.made c.requires.creator.some)
