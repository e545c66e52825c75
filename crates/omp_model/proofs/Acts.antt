-- What is to start, to finish or to become ready does so.
use Rattle.std.proofs.Common.{◌≡◌, ℕ, ◌≤◌, false, List, length, sym, ap, subst, arith}
use Rattle.std.specs.Prelude.{Option, Some}
use Rattle.task_pool.specs.declared.task.Task.{Task as PoolTask}
use Rattle.task_pool.specs.declared.task.TaskKind.TheVariants as kind
use Rattle.task_pool.specs.Tasks.{is_finished}
use Rattle.omp_model.specs.declared.history.Entry.{Entry}
use Rattle.omp_model.specs.declared.limits.TheConstants.{INITIAL_TASK}
use Rattle.omp_model.specs.declared.event.Arrival.TheVariants.{RuntimeEvent}
use Rattle.omp_model.specs.declared.event.Callback.{Callback}
use Rattle.omp_model.specs.declared.event.Event.{Event}
use Rattle.omp_model.specs.declared.event.Event.TheVariants as event
use Rattle.omp_model.specs.State.{Run, World, pending_at, pooled_at, region_at, task_at}
use Rattle.omp_model.specs.Members.{current}
use Rattle.omp_model.specs.Gates.{arrival}
use Rattle.omp_model.specs.Changes.{without_current_task, taken_up}
use Rattle.omp_model.specs.EventEffects.{member_code}
use Rattle.omp_model.specs.Turn.{walk}
use Rattle.omp_model.specs.Legal.{after}
use Rattle.omp_model.specs.MadeWorld.{IsMadeWorld}
use Rattle.omp_model.specs.Conditions.{AreOrderly, BackActs, EventOrderly, GoActs, PendingOrderly, Starts, member_made}
use Rattle.omp_model.proofs.Arriving.{Arrives, Reached, arrives}
use Rattle.omp_model.proofs.Guards.{made-walk}
use Rattle.omp_model.proofs.MadeRuns.{made-after}
use Rattle.omp_model.proofs.Moves.{finished-is, fresh-is, readied-is, started-is}
use Rattle.omp_model.proofs.OrderlyEvents.{begins-unstarted, ending, unfinished-yet}
use Rattle.omp_model.proofs.OrderlyRuns.{orderly-after, orderly-walk}

member-starts : (W : World) (r : ℕ) → AreOrderly W → IsMadeWorld W → Starts (member_made W r) (length W.tasks)
member-starts W r all made =
    let parent = (region_at W r).head.task in
    let fresh = fresh-is W parent r kind.Implicit (member_code (task_at W parent).code) all made (λ is. cc) in
    started-is (member_made W r) (length W.tasks) (ap (λ (x : PoolTask). is_finished x.condition) fresh)

go-acts : (W : World) (t : ℕ) (e : Event) → AreOrderly W → IsMadeWorld W → Reached W t e → GoActs W t e
go-acts W t event.InitialTaskBegin all made at = started-is (taken_up W t INITIAL_TASK) INITIAL_TASK (ap is_finished at.condition)
go-acts W t event.InitialTaskEnd all made at =
    let first = all.alone (current W t) at.kind in
    finished-is (without_current_task W t) INITIAL_TASK (ending W t INITIAL_TASK all (record { task = sym first; some = omega arith })).started
go-acts W t (event.MemberBegin r k) all made at = subst (Starts (member_made W r)) (sym at.task) (member-starts W r all made)
go-acts W t (event.MemberEnd r k) all made at = finished-is (without_current_task W t) k (ending W t k all at.end).started
go-acts W t (event.TaskBegin prior task) all made at = started-is (taken_up W t task) task (unfinished-yet (pooled_at W task).condition (begins-unstarted W t task all at.task))
go-acts W t other all made at = tt

back-acts : (W : World) (t : ℕ) (e : Event) → EventOrderly W t e → BackActs W e
back-acts W t (event.TaskCreate task false codeptr) so = readied-is W task so.task.made
back-acts W t (event.TaskEnd task) so = finished-is W task so.task.started
back-acts W t other so = tt

pending-acts : (W : World) (t : ℕ) (callback : Option Callback) (one : Callback) → callback ≡ Some one → PendingOrderly W t callback → BackActs W one.event
pending-acts W t callback one is so = back-acts W t one.event (subst (PendingOrderly W t) is so)

module _ (run : Run) (history : List Entry) (there : 1 ≤ run.threads) where
  pub acts-walk : (t count : ℕ) (e : Event) → arrival (walk run count 0 (after run history) t).state.world t ≡ RuntimeEvent e → GoActs (walk run count 0 (after run history) t).state.world t e
  acts-walk t count e meets =
      let W = (walk run count 0 (after run history) t).state.world in
      go-acts W t e (orderly-walk run history there t count) (made-walk run (after run history) t count 0 (made-after run history there).world) (subst (Arrives W t) meets (arrives W t))

  pub acts-back : (t : ℕ) (callback : Callback) → pending_at (after run history) t ≡ Some callback → BackActs (after run history).world callback.event
  acts-back t callback is = let S = after run history in pending-acts S.world t (pending_at S t) callback is ((orderly-after run history there).pending t)
