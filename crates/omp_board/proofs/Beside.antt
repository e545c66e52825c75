-- What is so where a thread has come to an event beside all code that meets no limit.
use Rattle.std.proofs.Common.{◌≡◌, ℕ, ◌<◌, ◌≤◌, nat_le, if◌then◌else◌, Bool, true, false, List, [], ◌∷◌, length, refl, sym, subst, arith}
use Rattle.std.specs.Prelude.{Option, Some, None, Result, Ok, Err, IsOk}
use Rattle.std.proofs.lemmas.Bool.{leb-false}
use Rattle.task_pool.specs.declared.task.Full.{Full}
use Rattle.task_pool.specs.declared.task.Task.{Task as PoolTask}
use Rattle.task_pool.specs.Tasks.{MayBeParent}
use Rattle.task_pool.specs.View.{answer_to_add}
use Rattle.omp_model.specs.declared.event.Arrival.TheVariants.{RuntimeEvent}
use Rattle.omp_model.specs.declared.event.Event.TheVariants as event
use Rattle.omp_model.specs.declared.event.Halt.{Halt}
use Rattle.omp_model.specs.declared.event.Halt.TheVariants.{Limit}
use Rattle.omp_model.specs.declared.limits.TheConstants.{STACK, STACK_LIMIT}
use Rattle.omp_model.specs.Gates.{arrival}
use Rattle.omp_model.specs.EventEffects.{fault_of, first_fault, full_fault, stack_fault, task_fault}
use Rattle.omp_model.specs.MadeWorld.{IsMadeWorld}
use Rattle.omp_model.specs.State.{World, region_at, thread_at}
use Rattle.omp_model.proofs.Arriving.{Arrives, AtMember, arrives}

-- a limit that isn't met
unmet : (over : Bool) (limit : Halt) → (if over then Some limit else None) ≡ None → over ≡ false
unmet true limit none = absurd cc
unmet false limit none = cc

first-unmet : (first second : Option Halt) → first_fault first second ≡ None → first ≡ None
first-unmet (Some halt) second none = absurd cc
first-unmet None second none = cc

second-unmet : (first second : Option Halt) → first_fault first second ≡ None → second ≡ None
second-unmet (Some halt) second none = absurd cc
second-unmet None second none = none

not-full : (answer : Result ℕ Full) → full_fault answer ≡ None → IsOk answer
not-full (Ok task) none = refl
not-full (Err full) none = absurd cc

-- a task that was made may be a parent
pub may-be-parent : (tasks : List PoolTask) (parent : ℕ) → 1 ≤ parent → parent ≤ length tasks → MayBeParent tasks parent
may-be-parent [] parent some within = absurd (omega arith)
may-be-parent (first ∷ others) parent some within = (some, within)

module _ (W : World) (t : ℕ) where
  stack-room : stack_fault W t ≡ None → length (thread_at W t).stack < STACK_LIMIT
  stack-room none = leb-false STACK_LIMIT (length (thread_at W t).stack) (unmet (nat_le STACK_LIMIT (length (thread_at W t).stack)) (Limit STACK) none)

  pub initial_fits : fault_of W t event.InitialTaskBegin ≡ None → length (thread_at W t).stack < STACK_LIMIT
  unfolding fault_of
  initial_fits none = stack-room none

  module _ (prior k : ℕ) where
    pub task_fits : fault_of W t (event.TaskBegin prior k) ≡ None → length (thread_at W t).stack < STACK_LIMIT
    unfolding fault_of
    task_fits none = stack-room none

  module _ (r k : ℕ) where
    pub member_fits : fault_of W t (event.MemberBegin r k) ≡ None → length (thread_at W t).stack < STACK_LIMIT
    unfolding fault_of
    member_fits none = stack-room (second-unmet (task_fault W) (stack_fault W t) none)

    pub member_counted : fault_of W t (event.MemberBegin r k) ≡ None → IsOk (answer_to_add W.pool.tasks)
    unfolding fault_of
    member_counted none = not-full (answer_to_add W.pool.tasks) (first-unmet (task_fault W) (stack_fault W t) none)

    module _ (made : IsMadeWorld W) (meets : arrival W t ≡ RuntimeEvent (event.MemberBegin r k)) where
      at-member : AtMember W t r k
      at-member = subst (Arrives W t) meets (arrives W t)

      some-invited : 1 ≤ (thread_at W t).invited
      some-invited = subst (λ r. 1 ≤ r) at-member.region at-member.some

      pub region_there : r < length W.regions
      region_there = subst (λ r. r < length W.regions) (sym at-member.region) ((made.threads t).joins some-invited).made.below

      -- the region was forked by a task
      pub parent_there : MayBeParent W.pool.tasks (region_at W r).head.task
      parent_there =
          let two : 2 ≤ r = subst (λ r. 2 ≤ r) (sym at-member.region) ((made.threads t).forks some-invited) in
          let region = made.regions r (record { some = omega arith; below = region_there }) in
          let pooled = made.pooled in
          let within = region.task in
          may-be-parent W.pool.tasks (region_at W r).head.task (made.encountered r two region_there) (omega arith)
