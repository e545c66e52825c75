use Rattle.std.proofs.Common.{length}
use Rattle.task_pool.specs.Links.{rings_of, follow}
use Rattle.task_pool.proofs.Following.{GoesBack}
use Rattle.task_pool.proofs.pool.Pool.newest_allowed.Given as goal

abbrev pub invariant-loop-task : goal.invariant-loop-task
invariant-loop-task l = GoesBack (rings_of l.self-inside.chain) l.region l.held l.task

abbrev pub decreases-loop-task : goal.decreases-loop-task
decreases-loop-task l = length (follow ((rings_of l.self-inside.chain).previous_in l.region) (length (rings_of l.self-inside.chain).tasks) l.task)
