use Rattle.std.proofs.Common.{◌≡◌, true}
use Rattle.std.specs.List.{list_all}
use Rattle.task_pool.specs.Allowed.{descends, parent_of}
use Rattle.task_pool.specs.Links.{tasks_of}
use Rattle.task_pool.specs.Walking.{reaches}
use Rattle.task_pool.proofs.pool.descends_from_all.Given as goal

abbrev pub invariant-loop-from : goal.invariant-loop-from
invariant-loop-from l = record {
  on_the_way : reaches (tasks_of l.chain) (parent_of (tasks_of l.chain) l.task) l.ancestor ≡ true;
  met : list_all (λ from. descends (tasks_of l.chain) l.task from.now) l.yielded ≡ true;
}
