-- The state that is told of a thread at its event is one of those that are enumerated.
use Rattle.std.proofs.Common.{ℕ, ◌==◌, Bool, true, false, if◌then◌else◌, List, [], ◌∷◌, refl}
use Rattle.c_model.specs.declared.point.MutexKind.{MutexKind}
use Rattle.c_model.specs.declared.point.MutexKind.TheVariants as mutex
use Rattle.c_model.specs.declared.point.SyncKind.{SyncKind}
use Rattle.c_model.specs.declared.point.SyncKind.TheVariants as sync
use Rattle.c_model.specs.declared.point.SyncStage.{SyncStage}
use Rattle.c_model.specs.declared.point.SyncStage.TheVariants as stage
use Rattle.c_model.specs.Task.{Item}
use Rattle.c_model.specs.Task.Item.{Sync as SyncItem}
use Rattle.omp_codes.specs.States.{states}
use Rattle.omp_model.specs.declared.limits.TheConstants.{INITIAL_TASK, IMPLICIT_REGION}
use Rattle.omp_model.specs.declared.event.Event.{Event}
use Rattle.omp_model.specs.declared.event.Event.TheVariants.{Dispatch, InitialTaskBegin, LockDestroy, LockInit, Masked, MemberBegin, MemberEnd, MutexAcquire, MutexAcquired, MutexReleased, Sync, TaskBegin, TaskCreate, TaskEnd, Work}
use Rattle.omp_model.specs.State.{World, task_at}
use Rattle.omp_model.specs.Members.{current, current_region, is_outermost}
use Rattle.omp_model.specs.Snapshots.{acquire_state, left_state, resumed_state, state_of, sync_state, wait_state, work_state}
use Rattle.trace_format.specs.Validity.{IsAmong}

-- one of two states
either : (b : Bool) (one other : ℕ) → IsAmong states one → IsAmong states other → IsAmong states (if b then one else other)
either true one other first second = first
either false one other first second = second

at-work : (W : World) (t : ℕ) → IsAmong states (work_state W t)
at-work W t = either (current_region W t == IMPLICIT_REGION) 0x000 0x001 refl refl

leaving : (W : World) (t r : ℕ) → IsAmong states (left_state W t r)
leaving W t r =
    either (t == 0) 0x101 (if is_outermost W r then 0x100 else 0x101) refl (either (is_outermost W r) 0x100 0x101 refl refl)

waiting : (which : SyncKind) → IsAmong states (wait_state which)
waiting sync.Barrier = refl
waiting sync.Taskwait = refl
waiting sync.Worksharing = refl
waiting sync.Parallel = refl

at-sync : (which : SyncKind) (at : SyncStage) → IsAmong states (sync_state which at)
at-sync which stage.WaitBegin = waiting which
at-sync which other = refl

acquiring : (W : World) (t : ℕ) (which : MutexKind) → IsAmong states (acquire_state W t which)
acquiring W t mutex.Lock = refl
acquiring W t mutex.TestLock = at-work W t
acquiring W t mutex.Critical = refl

resuming : (W : World) (t : ℕ) (items : List Item) → IsAmong states (resumed_state W t items)
resuming W t (SyncItem tree which stage.WaitEnd ∷ items) = waiting which
resuming W t [] = either (current W t == INITIAL_TASK) 0x101 (work_state W t) refl (at-work W t)
resuming W t other = at-work W t

pub known : (W : World) (t : ℕ) (event : Event) → IsAmong states (state_of W t event)
unfolding state_of
known W t InitialTaskBegin = at-work W t
known W t (MemberBegin r k) = at-work W t
known W t (MemberEnd r k) = leaving W t r
known W t (TaskCreate task undeferred codeptr) = at-work W t
known W t (TaskBegin prior task) = at-work W t
known W t (TaskEnd task) = resuming W t (task_at W (current W t)).code.todo
known W t (Work endpoint which count codeptr) = at-work W t
known W t (Dispatch share) = at-work W t
known W t (Masked endpoint codeptr) = at-work W t
known W t (Sync which at codeptr) = at-sync which at
known W t (MutexAcquire which wait_id codeptr) = acquiring W t which
known W t (MutexAcquired which wait_id codeptr) = at-work W t
known W t (MutexReleased which wait_id codeptr) = at-work W t
known W t (LockInit wait_id codeptr) = at-work W t
known W t (LockDestroy wait_id codeptr) = at-work W t
known W t other = refl
