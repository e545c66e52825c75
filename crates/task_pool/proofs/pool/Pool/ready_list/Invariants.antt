use Rattle.std.proofs.Common.{length}
use Rattle.task_pool.specs.Links.{rings_of, follow}
use Rattle.task_pool.proofs.Following.{IsTold}
use Rattle.task_pool.proofs.pool.Pool.ready_list.Given as goal

abbrev pub invariant-loop-task : goal.invariant-loop-task
invariant-loop-task l = IsTold (rings_of l.self-inside.chain) l.list.items l.task

abbrev pub decreases-loop-task : goal.decreases-loop-task
decreases-loop-task l = length (follow (rings_of l.self-inside.chain).next (length (rings_of l.self-inside.chain).tasks) l.task)
