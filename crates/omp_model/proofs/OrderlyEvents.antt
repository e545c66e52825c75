-- Gos and Backs keep the tasks orderly.
use Rattle.std.proofs.Common.{◌≡◌, ℕ, ◌≤◌, Bool, true, false, List, length, refl, sym, ap, subst, arith}
use Rattle.std.specs.Prelude.{Option, Some, None, nat_abs}
use Rattle.std.proofs.lemmas.List.{length_push}
use Rattle.c_model.specs.declared.point.Point.{Point}
use Rattle.c_model.specs.declared.point.Point.TheVariants as point
use Rattle.c_model.specs.declared.point.SyncKind.{SyncKind}
use Rattle.c_model.specs.declared.point.SyncStage.{SyncStage}
use Rattle.c_model.specs.declared.point.SyncStage.TheVariants as stage
use Rattle.c_model.specs.declared.point.Work.{Work}
use Rattle.c_model.specs.declared.point.Work.TheVariants as work
use Rattle.c_model.specs.Begin.{explicit_task}
use Rattle.c_model.specs.Step.{silent}
use Rattle.c_model.specs.Task.{Moment, Outcome, Store}
use Rattle.c_model.specs.Task.Outcome.{Occurs}
use Rattle.task_pool.specs.Allowed.{is_allowed}
use Rattle.task_pool.specs.declared.task.Condition.{Condition}
use Rattle.task_pool.specs.declared.task.Condition.TheVariants as condition
use Rattle.task_pool.specs.declared.task.Task.{Task as PoolTask}
use Rattle.task_pool.specs.declared.task.TaskKind.{TaskKind}
use Rattle.task_pool.specs.declared.task.TaskKind.TheVariants as kind
use Rattle.task_pool.specs.Tasks.{is_explicit, is_finished}
use Rattle.sync_objects.specs.View.{LocksView}
use Rattle.omp_model.specs.declared.limits.TheConstants.{INITIAL_TASK}
use Rattle.omp_model.specs.declared.event.Event.{Event}
use Rattle.omp_model.specs.declared.event.Event.TheVariants as event
use Rattle.omp_model.specs.declared.event.Halt.{Halt}
use Rattle.omp_model.specs.State.{Region, Run, Thread, World, pooled_at, region_at, task_at, task_with, thread_at, with_thread}
use Rattle.omp_model.specs.Members.{current, current_index, current_region, is_member, is_outermost, view_of}
use Rattle.omp_model.specs.Gates.{held_tasks, is_barrier, next_task}
use Rattle.omp_model.specs.Changes.{with_invitations, with_wait_begun, without_code, with_finished_task, with_member_meeting, with_members_invited, with_barrier_passed, without_current_task, with_started_task, with_invitation, taken_up, task_made}
use Rattle.omp_model.specs.EventEffects.{Going, Nothing, Happens, Halts, after_creation, after_meeting_at, after_member, after_sync, barrier_met, effect_of, effect_of_point, event_of_point, fault_of, fault_of_point, go_of_runtime, going_by, go_of_code, kind_of_task, member_code, past_point, told, unless, work_begin, work_met}
use Rattle.omp_model.specs.Returning.{after_created, at_back}
use Rattle.omp_model.specs.MadeWorld.{HasOccurred, IsMadeWorld, IsRegionOf, IsTask, IsThread}
use Rattle.omp_model.specs.Conditions.{AreOrderly, EventOrderly, IsReady, IsToStart, IsUnderWay, WasCreated, has_started}
use Rattle.omp_model.proofs.Arriving.{AtEnd, Begins, Ready, Reached, Undeferred}
use Rattle.omp_model.proofs.MadeWords.{after-popped, after-task_made}
use Rattle.omp_model.proofs.MadeEvents.{Found, coming, current-made, first-of, found-last}
use Rattle.omp_model.proofs.Conditions.{Apart, OrderlyAfter, Still, after-still, apart-implicit, apart-ready, apart-to-start, event-still, orderly-then, same-thread, still-either, still-same, still-summoned, still-task, still-thread}
use Rattle.omp_model.proofs.Moves.{fresh-is, orderly-beginning, orderly-detained, orderly-finished, orderly-made, orderly-popped, orderly-readied, popped-ended, started-is, was-created}

-- What leaves tasks and stacks as they are.

still-regions : (W : World) (regions : List Region) → Still W (record W { regions = regions })
still-regions W regions = record { pool = refl; tasks = refl; threads = λ t. same-thread (thread_at W t); holders = λ k. refl }

still-store : (W : World) (store : Store) (locks : LocksView) → Still W (record W { store = store; locks = locks })
still-store W store locks = record { pool = refl; tasks = refl; threads = λ t. same-thread (thread_at W t); holders = λ k. refl }

still-own : (W : World) (t : ℕ) (thread : Thread) → thread.stack ≡ (thread_at W t).stack → thread.undeferred ≡ (thread_at W t).undeferred → Still W (with_thread W t thread)
still-own W t thread stack undeferred = still-thread W t thread (record { stack = stack; undeferred = undeferred })

still-met : (W : World) (t codeptr : ℕ) (which : SyncKind) (at : SyncStage) → Still W (after_sync W t codeptr which at)
still-met W t codeptr which stage.RegionBegin =
    let what = barrier_met codeptr which in
    still-either W (after_meeting_at W t what) W (is_barrier which) (still-either W (with_member_meeting W (current_region W t) (current_index W t) what) W (is_member W t) (still-regions W _) (still-same W)) (still-same W)
still-met W t codeptr which stage.WaitEnd = still-either W (with_barrier_passed W (current_region W t) (current_index W t)) W (is_barrier which) (still-regions W _) (still-same W)
still-met W t codeptr which other = still-same W

-- Events.

-- an event has occurred, and the tasks are orderly
pub record OrderlyGo (W after : World) (t : ℕ) (e : Event) : Type 0 where
  pub whole : OrderlyAfter t W after
  pub occurred : EventOrderly after t e

go-still : (W after : World) (t : ℕ) (e : Event) → AreOrderly W → Still W after → EventOrderly after t e → OrderlyGo W after t e
go-still W after t e all still so = record { whole = after-still t W after all still; occurred = so }

-- .. and then what leaves them as they are
go-then : (W between after : World) (t : ℕ) (e : Event) → OrderlyGo W between t e → Still between after → OrderlyGo W after t e
go-then W between after t e go still =
    record { whole = orderly-then t W between after go.whole (after-still t between after go.whole.world still); occurred = event-still between after still t e go.occurred }

work-orderly : (W V : World) (t codeptr : ℕ) (what : Work) → EventOrderly V t (work_begin W t codeptr what)
work-orderly W V t codeptr (work.Loop start count step how) = tt
work-orderly W V t codeptr (work.Sections count) = tt
work-orderly W V t codeptr work.Single = tt

explicit-kind : (undeferred : Bool) → is_explicit (kind_of_task undeferred) ≡ true
explicit-kind true = refl
explicit-kind false = refl

plain-kind : (which : TaskKind) → is_explicit which ≡ true → which ≡ kind.Initial → ⊥
plain-kind kind.Initial explicit is = cc
plain-kind other explicit is = cc

-- the thread's current task is under way
current-under-way : (W : World) (t : ℕ) → AreOrderly W → 1 ≤ current W t → IsUnderWay W t (current W t)
current-under-way W t all some = first-of (IsUnderWay W t) (thread_at W t).stack (all.stacked t) some

go-creation : (run : Run) (W : World) (t codeptr : ℕ) (now : Moment) (undeferred : Bool) → AreOrderly W → IsMadeWorld W → 1 ≤ current W t → OrderlyGo W (after_creation run W t now undeferred) t (event.TaskCreate (length W.tasks) undeferred codeptr)
go-creation run W t codeptr now undeferred all made some =
    let new = explicit_task run.program (view_of W t) now in
    let which = kind_of_task undeferred in
    let W1 = task_made W (current W t) (current_region W t) which new.task in
    let plain = plain-kind which (explicit-kind undeferred) in
    let created : OrderlyGo W W1 t (event.TaskCreate (length W.tasks) undeferred codeptr) = record {
      whole = orderly-made W (current W t) (current_region W t) which new.task all made plain t;
      occurred = was-created W (current W t) (current_region W t) which new.task all made plain t (explicit-kind undeferred) (current-made W t made some).made (current-under-way W t all some);
    } in
    go-then W W1 (after_creation run W t now undeferred) t (event.TaskCreate (length W.tasks) undeferred codeptr) created (still-store W1 new.store W1.locks)

go-effect : (run : Run) (W : World) (t : ℕ) (now : Moment) (what : Point) → AreOrderly W → IsMadeWorld W → 1 ≤ current W t → OrderlyGo W (effect_of_point run W t now what) t (event_of_point W t what)
unfolding effect_of_point
go-effect run W t now (point.ParallelBegin codeptr requested) all made some =
    go-still W _ t (event.ParallelBegin (length W.regions) (nat_abs requested) codeptr) all
    (let forked = still-task W (current W t) (record (task_at W (current W t)) { forked = length W.regions }) refl in record { pool = forked.pool; tasks = forked.tasks; threads = forked.threads; holders = forked.holders }) tt
go-effect run W t now (point.ParallelEnd codeptr) all made some = go-still W _ t (event.ParallelEnd (task_at W (current W t)).forked codeptr) all (still-regions W _) tt
go-effect run W t now (point.TaskCreate codeptr undeferred) all made some = go-creation run W t codeptr now undeferred all made some
go-effect run W t now (point.WorkBegin codeptr what) all made some =
    go-still W _ t (work_begin W t codeptr what) all (still-either W (with_member_meeting W (current_region W t) (current_index W t) (work_met codeptr what)) W (is_member W t) (still-regions W _) (still-same W)) (work-orderly W _ t codeptr what)
go-effect run W t now (point.Sync codeptr which at) all made some = go-still W _ t (event.Sync which at codeptr) all (still-met W t codeptr which at) tt
go-effect run W t now (point.MutexAcquired codeptr id which) all made some = go-still W _ t (event.MutexAcquired which id codeptr) all (still-store W W.store _) tt
go-effect run W t now (point.MutexReleased codeptr id which) all made some = go-still W _ t (event.MutexReleased which id codeptr) all (still-store W W.store _) tt
go-effect run W t now (point.LockInit codeptr id) all made some = go-still W _ t (event.LockInit id codeptr) all (still-store W W.store _) tt
go-effect run W t now (point.LockDestroy codeptr id) all made some = go-still W _ t (event.LockDestroy id codeptr) all (still-store W W.store _) tt
go-effect run W t now other all made some = record { whole = after-still t W W all (still-same W); occurred = tt }

abbrev pub OrderlyGoing : World → ℕ → Going → Type 0
OrderlyGoing W t Nothing = Unit {0}
OrderlyGoing W t (Halts halt) = Unit {0}
OrderlyGoing W t (Happens e after) = OrderlyGo W after t e

going-unless : (W after : World) (t : ℕ) (halt : Option Halt) (e : Event) → OrderlyGo W after t e → OrderlyGoing W t (unless halt e after)
going-unless W after t (Some halt) e go = tt
going-unless W after t None e go = go

going-outcome : (run : Run) (W : World) (t : ℕ) (now : Moment) (outcome : Outcome) → AreOrderly W → IsMadeWorld W → 1 ≤ current W t → OrderlyGoing W t (going_by run W t now outcome)
going-outcome run W t now (Occurs what tree) all made some =
    let between = effect_of_point run W t now what in
    let e = event_of_point W t what in
    going-unless W (past_point W between t now what) t (fault_of_point W t now.task what) e
    (go-then W between (past_point W between t now what) t e (go-effect run W t now what all made some) (still-task between (current between t) _ refl))
going-outcome run W t now other all made some = tt

pub in_code-orderly : (run : Run) (W : World) (t : ℕ) → AreOrderly W → IsMadeWorld W → 1 ≤ current W t → OrderlyGoing W t (go_of_code run W t)
unfolding go_of_code
in_code-orderly run W t all made some = going-outcome run W t (told W t) (silent run.program (view_of W t) (told W t)) all made some

-- Events beside all code.

pub unfinished-yet : (now : Condition) → has_started now ≡ false → is_finished now ≡ false
unfinished-yet condition.Finished un = un
unfinished-yet other un = refl

-- a task that was made before begins
begins-on : (W : World) (t k : ℕ) → AreOrderly W → IsMadeWorld W → IsThread W t → IsTask W k → has_started (pooled_at W k).condition ≡ false → Apart W t k → OrderlyAfter t W (with_started_task (taken_up W t k) k)
begins-on W t k all made there one un apart =
    subst (OrderlyAfter t W) (sym (started-is (taken_up W t k) k (unfinished-yet (pooled_at W k).condition un))) (orderly-beginning W t k all made there one un apart)

begins-initial : (W : World) (t : ℕ) → AreOrderly W → IsMadeWorld W → IsThread W t → (pooled_at W INITIAL_TASK).condition ≡ condition.Made → OrderlyAfter t W (with_started_task (taken_up W t INITIAL_TASK) INITIAL_TASK)
begins-initial W t all made there fresh =
    begins-on W t INITIAL_TASK all made there made.initial (ap has_started fresh) (apart-implicit W t INITIAL_TASK fresh (ap is_explicit all.initial))

-- a ready one, or an undeferred one
detained-is : (W : World) (t k : ℕ) → AreOrderly W → k ≡ (thread_at W t).undeferred → 1 ≤ k → IsToStart W t k
detained-is W t k all is some = subst (IsToStart W t) (sym is) (all.starts t (rw (← is) some))

ready-is : (W : World) (t k : ℕ) → AreOrderly W → next_task W t ≡ Some k → IsReady W k
ready-is W t k all is = subst (Found (IsReady W)) is (found-last (IsReady W) (IsReady W) (is_allowed W.pool.tasks (current_region W t) (held_tasks W t)) W.pool.ready all.ready (λ j so allows. so))

pub begins-unstarted : (W : World) (t k : ℕ) → AreOrderly W → Begins W t k → has_started (pooled_at W k).condition ≡ false
begins-unstarted W t k all (Undeferred uninvited is some) = ap has_started (detained-is W t k all is some).made
begins-unstarted W t k all (Ready may is) = ap has_started (ready-is W t k all is)

begins-apart : (W : World) (t k : ℕ) → AreOrderly W → Begins W t k → Apart W t k
begins-apart W t k all (Undeferred uninvited is some) = apart-to-start W t k (detained-is W t k all is some)
begins-apart W t k all (Ready may is) = apart-ready W t k (ready-is W t k all is)

-- a member's task is made, and begins
begins-member : (W : World) (t r : ℕ) → AreOrderly W → IsMadeWorld W → IsThread W t → IsRegionOf W t r → OrderlyAfter t W (after_member W t r (length W.tasks))
begins-member W t r all made there one =
    let parent = (region_at W r).head.task in
    let code = member_code (task_at W parent).code in
    let k = length W.tasks in
    let W1 = task_made W parent r kind.Implicit code in
    let W3 = taken_up (with_started_task W1 k) t k in
    let plain = plain-implicit in
    let created = orderly-made W parent r kind.Implicit code all made plain t in
    let now = fresh-is W parent r kind.Implicit code all made plain in
    let fresh : (pooled_at W1 k).condition ≡ condition.Made = ap (λ (x : PoolTask). x.condition) now in
    let implicit : is_explicit (pooled_at W1 k).kind ≡ false = ap (λ (x : PoolTask). is_explicit x.kind) now in
    let there_too : IsTask W1 k = record { some = omega (arith, made.initial.below); below = omega (arith, length_push W.tasks (task_with code)) } in
    let begun : OrderlyAfter t W1 W3 =
    subst (λ X. OrderlyAfter t W1 (taken_up X t k)) (sym (started-is W1 k (unfinished-yet (pooled_at W1 k).condition (ap has_started fresh))))
    (orderly-beginning W1 t k created.world (after-task_made W parent r kind.Implicit code made one.made).world there there_too (ap has_started fresh) (apart-implicit W1 t k fresh implicit)) in
    orderly-then t W W3 (after_member W t r k) (orderly-then t W W1 W3 created begun) (after-still t W3 (after_member W t r k) begun.world (still-regions W3 _))
  where
    plain-implicit : kind.Implicit ≡ kind.Initial → ⊥
    plain-implicit is = cc

-- the current task ends
pub ending : (W : World) (t k : ℕ) → AreOrderly W → AtEnd W t k → IsUnderWay W t k
ending W t k all at = subst (IsUnderWay W t) (sym at.task) (current-under-way W t all (rw (← at.task) at.some))

ends : (W : World) (t k : ℕ) → AreOrderly W → IsMadeWorld W → IsThread W t → AtEnd W t k → OrderlyAfter t W (with_finished_task (without_current_task W t) k)
ends W t k all made there at =
    let one = ending W t k all at in
    let off = orderly-popped W t k all there at.task at.some one in
    let task : IsTask W k = subst (IsTask W) (sym at.task) (current-made W t made (rw (← at.task) at.some)).made in
    orderly-then t W (without_current_task W t) (with_finished_task (without_current_task W t) k) off
    (orderly-finished (without_current_task W t) t k off.world (after-popped W t made).world (record { some = task.some; below = task.below }) (popped-ended W t k all there at.task at.some one))

go-beside : (W : World) (t : ℕ) (e : Event) → AreOrderly W → IsMadeWorld W → IsThread W t → Reached W t e → OrderlyGo W (effect_of W t e) t e
unfolding effect_of
go-beside W t event.ThreadBegin all made there at = go-still W _ t event.ThreadBegin all (still-own W t _ refl refl) tt
go-beside W t event.InitialTaskBegin all made there at =
    let W2 = with_started_task (taken_up W t INITIAL_TASK) INITIAL_TASK in
    go-then W W2 _ t event.InitialTaskBegin (record { whole = begins-initial W t all made there at.condition; occurred = tt }) (still-regions W2 _)
go-beside W t event.InitialTaskEnd all made there at =
    let first = all.alone (current W t) at.kind in
    record { whole = ends W t INITIAL_TASK all made there (record { task = sym first; some = omega arith }); occurred = tt }
go-beside W t (event.MemberBegin r k) all made there at =
    let comes = coming W t made (event.MemberBegin r k) at in
    record { whole = subst (λ j. OrderlyAfter t W (after_member W t r j)) (sym at.task) (begins-member W t r all made there comes.region); occurred = tt }
go-beside W t (event.MemberEnd r k) all made there at =
    let W2 = with_finished_task (without_current_task W t) k in
    go-then W W2 (without_code W2 k) t (event.MemberEnd r k) (record { whole = ends W t k all made there at.end; occurred = tt }) (still-task W2 k _ refl)
go-beside W t (event.TaskBegin prior task) all made there at =
    record { whole = begins-on W t task all made there (coming W t made (event.TaskBegin prior task) at).task.made (begins-unstarted W t task all at.task) (begins-apart W t task all at.task); occurred = tt }
go-beside W t (event.TaskEnd task) all made there at =
    let one = ending W t task all at.end in
    go-then W (without_current_task W t) (without_code (without_current_task W t) task) t (event.TaskEnd task)
    (record { whole = orderly-popped W t task all there at.end.task at.end.some one; occurred = popped-ended W t task all there at.end.task at.end.some one })
    (still-task (without_current_task W t) task _ refl)
go-beside W t (event.Dispatch share) all made there at = go-still W _ t (event.Dispatch share) all (still-own W t _ refl refl) tt
go-beside W t (event.ParallelBegin r requested codeptr) all made there at = absurd at
go-beside W t (event.ParallelEnd r codeptr) all made there at = absurd at
go-beside W t (event.TaskCreate task undeferred codeptr) all made there at = absurd at
go-beside W t other all made there at = record { whole = after-still t W W all (still-same W); occurred = tt }

pub beside-orderly : (W : World) (t : ℕ) (e : Event) → AreOrderly W → IsMadeWorld W → IsThread W t → Reached W t e → OrderlyGoing W t (go_of_runtime W t e)
beside-orderly W t e all made there at = going-unless W (effect_of W t e) t (fault_of W t e) e (go-beside W t e all made there at)

-- What takes hold at a Back.

after-creation : (W : World) (t task : ℕ) (undeferred : Bool) → AreOrderly W → IsMadeWorld W → IsThread W t → IsTask W task → WasCreated W t task → OrderlyAfter t W (after_created W t task undeferred)
after-creation W t task true all made there one so = orderly-detained W t task all there so.task
after-creation W t task false all made there one so = orderly-readied W t task all made one so

pub back-orderly : (W : World) (t : ℕ) (e : Event) → AreOrderly W → IsMadeWorld W → HasOccurred W t e → EventOrderly W t e → OrderlyAfter t W (at_back W t e)
unfolding at_back
back-orderly W t event.ThreadEnd all made was so = after-still t W _ all (still-own W t _ refl refl)
back-orderly W t (event.ParallelBegin r requested codeptr) all made was so =
    after-still t W (with_members_invited W t r) all
    (still-either W (record W { threads = with_invitations r (region_at W r).head.size W.threads }) (with_thread W t (with_invitation r (thread_at W t))) (is_outermost W r) (still-summoned W r (region_at W r).head.size) (still-own W t _ refl refl))
back-orderly W t (event.ParallelEnd r codeptr) all made was so = after-still t W _ all (still-task W (current W t) _ refl)
back-orderly W t (event.MemberEnd r k) all made was so = after-still t W _ all (still-regions W _)
back-orderly W t (event.TaskCreate task undeferred codeptr) all made was so = after-creation W t task undeferred all made was.thread was.named.made so
back-orderly W t (event.TaskEnd task) all made was so = orderly-finished W t task all made was.named so
back-orderly W t (event.Sync which stage.WaitBegin codeptr) all made was so =
    after-still t W _ all (still-either W (with_wait_begun W (current_region W t) (current_index W t)) W (is_barrier which) (still-regions W _) (still-same W))
back-orderly W t other all made was so = after-still t W W all (still-same W)
