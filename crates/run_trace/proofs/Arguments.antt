-- The arguments of calls may stand in a trace: words by what fits and the words of nothing, and kinds by their cases.
use Rattle.std.proofs.Common.{ℕ, ◌≡◌, ◌≢◌, ◌==◌, ◌⊎◌, inl, inr, Bool, true, false, if◌then◌else◌, [], ◌∷◌, refl, sym, ap, ◌∙◌, subst, arith}
use Rattle.c_model.specs.declared.point.MutexKind.{MutexKind}
use Rattle.c_model.specs.declared.point.MutexKind.TheVariants as mutex
use Rattle.c_model.specs.declared.point.SyncKind.{SyncKind}
use Rattle.c_model.specs.declared.point.SyncKind.TheVariants as sync
use Rattle.c_model.specs.declared.point.SyncStage.{SyncStage}
use Rattle.c_model.specs.declared.point.SyncStage.TheVariants as stage
use Rattle.c_model.specs.declared.point.WorkKind.{WorkKind}
use Rattle.c_model.specs.declared.point.WorkKind.TheVariants as work
use Rattle.ompt_calls.specs.declared.call.Word.{Word}
use Rattle.task_pool.specs.declared.task.TaskKind.{TaskKind}
use Rattle.task_pool.specs.declared.task.TaskKind.TheVariants as kind
use Rattle.omp_model.specs.declared.limits.TheConstants.{INITIAL_TASK, IMPLICIT_REGION}
use Rattle.omp_model.specs.declared.event.Endpoint.{Endpoint}
use Rattle.omp_model.specs.declared.event.Endpoint.TheVariants as endpoint
use Rattle.omp_model.specs.declared.event.Event.{Event}
use Rattle.omp_model.specs.declared.event.Event.TheVariants.{Dispatch, InitialTaskBegin, InitialTaskEnd, LockDestroy, LockInit, Masked, MemberBegin, MemberEnd, MutexAcquire, MutexAcquired, MutexReleased, ParallelBegin, ParallelEnd, Sync, TaskBegin, TaskCreate, TaskEnd, ThreadBegin, ThreadEnd, Work}
use Rattle.omp_model.specs.declared.event.Share.{Share}
use Rattle.omp_model.specs.declared.event.Share.TheVariants.{Chunk, Section}
use Rattle.omp_model.specs.State.{World, pooled_at, region_at, task_at}
use Rattle.omp_model.proofs.Alike.{IsSomeShare}
use Rattle.omp_model.specs.Members.{current, current_region}
use Rattle.omp_model.specs.EventEffects.{sync_number}
use Rattle.omp_model.specs.Words.{null_word, region_word, task_word, thread_word}
use Rattle.omp_model.specs.Calls.{call_of, dispatch_call, endpoint_number, mutex_number, own_region_word, own_task_word, sync_call, synced_region, thread_kind, work_number}
use Rattle.omp_model.specs.Snapshots.{task_flags as flags_of}
use Rattle.trace_format.specs.Fitting.{FitsWord}
use Rattle.trace_format.specs.Validity.{IsAmong, IsCall, IsWord, endpoints, mutex_kinds, sync_kinds, task_flags, thread_kinds, work_kinds}
use Rattle.run_trace.proofs.Fits.{HasFit}
use Rattle.run_trace.proofs.Sensible.{HasNulls, IsSensible}

-- Words.

thread-stands : (W : World) (t : ℕ) → FitsWord (thread_word W t) → IsWord (thread_word W t)
thread-stands W t fits = (fits.0, fits.1, λ is. absurd (omega arith))

null-stands : FitsWord null_word → IsWord null_word
null-stands fits = (fits.0, fits.1, λ is. refl)

module _ (W : World) (nulls : HasNulls W) where
  region-null : (r : ℕ) → r ≡ 0 → (region_at W r).head.word ≡ 0
  region-null r is = ap (λ q. (region_at W q).head.word) is ∙ ap (λ (word : Word). word.value) nulls.region

  task-null : (k : ℕ) → k ≡ 0 → (task_at W k).word ≡ 0
  task-null k is = ap (λ j. (task_at W j).word) is ∙ ap (λ (word : Word). word.value) nulls.task

  region-stands : (r : ℕ) → FitsWord (region_word W r) → IsWord (region_word W r)
  region-stands r fits = (fits.0, fits.1, region-null r)

  task-stands : (k : ℕ) → FitsWord (task_word W k) → IsWord (task_word W k)
  task-stands k fits = (fits.0, fits.1, task-null k)

  synced-stands : (t : ℕ) (which : SyncKind) (at : SyncStage) → FitsWord (synced_region W t which at) → IsWord (synced_region W t which at)
  synced-stands t sync.Parallel stage.WaitEnd fits = null-stands fits
  synced-stands t sync.Parallel stage.RegionEnd fits = null-stands fits
  synced-stands t which at fits = region-stands (current_region W t) fits

-- Kinds.

thread-kind : (t : ℕ) → IsAmong thread_kinds (thread_kind t)
thread-kind t = elim (t == 0) as (λ (b : Bool). IsAmong thread_kinds (if b then 1 else 2)) [ true ↦ refl | false ↦ refl ]

endpoint-stands : (at : Endpoint) → IsAmong endpoints (endpoint_number at)
endpoint-stands endpoint.Begin = refl
endpoint-stands endpoint.End = refl

work-kind : (which : WorkKind) → IsAmong work_kinds (work_number which)
work-kind work.Loop = refl
work-kind work.Sections = refl
work-kind work.SingleExecutor = refl
work-kind work.SingleOther = refl

sync-kind : (which : SyncKind) → IsAmong sync_kinds (sync_number which)
sync-kind sync.Barrier = refl
sync-kind sync.Taskwait = refl
sync-kind sync.Worksharing = refl
sync-kind sync.Parallel = refl

mutex-kind : (which : MutexKind) → IsAmong mutex_kinds (mutex_number which)
mutex-kind mutex.Lock = refl
mutex-kind mutex.TestLock = refl
mutex-kind mutex.Critical = refl

released-kind : (which : MutexKind) → which ≢ mutex.TestLock → IsAmong (1 ∷ 5 ∷ []) (mutex_number which)
released-kind mutex.Lock other = refl
released-kind mutex.TestLock other = absurd (other refl)
released-kind mutex.Critical other = refl

created-flags : (which : TaskKind) → (which ≡ kind.Explicit) ⊎ (which ≡ kind.Undeferred) → IsAmong task_flags (flags_of which)
created-flags which (inl is) = subst (λ k. IsAmong task_flags (flags_of k)) (sym is) refl
created-flags which (inr is) = subst (λ k. IsAmong task_flags (flags_of k)) (sym is) refl

-- Calls.

module _ (W : World) (t : ℕ) (nulls : HasNulls W) where
  own-region : FitsWord (own_region_word W t) → IsWord (own_region_word W t)
  own-region fits = region-stands W nulls (current_region W t) fits

  own-task : FitsWord (own_task_word W t) → IsWord (own_task_word W t)
  own-task fits = task-stands W nulls (current W t) fits

  dispatch-stands : (share : Share) → IsSomeShare share → HasFit (dispatch_call W t share) → IsCall (dispatch_call W t share)
  dispatch-stands (Chunk start count) some fits =
      (own-region fits.0, own-task fits.1, fits.2, (refl, λ is. absurd (omega arith), λ is. some, fits.3))
  dispatch-stands (Section codeptr) some fits = (own-region fits.0, own-task fits.1, fits.2, (refl, λ is. refl, λ is. absurd (omega arith), fits.3))

  sync-stands : (which : SyncKind) (codeptr : ℕ) (at : SyncStage) → HasFit (sync_call W t which codeptr at) → IsCall (sync_call W t which codeptr at)
  sync-stands which codeptr stage.RegionBegin fits =
      (sync-kind which, refl, synced-stands W nulls t which stage.RegionBegin fits.0, own-task fits.1, fits.2)
  sync-stands which codeptr stage.WaitBegin fits = (sync-kind which, refl, synced-stands W nulls t which stage.WaitBegin fits.0, own-task fits.1, fits.2)
  sync-stands which codeptr stage.WaitEnd fits = (sync-kind which, refl, synced-stands W nulls t which stage.WaitEnd fits.0, own-task fits.1, fits.2)
  sync-stands which codeptr stage.RegionEnd fits = (sync-kind which, refl, synced-stands W nulls t which stage.RegionEnd fits.0, own-task fits.1, fits.2)

  pub stands : (event : Event) → IsSensible W event → HasFit (call_of W t event) → IsCall (call_of W t event)
  unfolding call_of
  stands ThreadBegin sensible fits = (thread-kind t, thread-stands W t fits)
  stands ThreadEnd sensible fits = thread-stands W t fits
  stands InitialTaskBegin sensible fits =
      (refl, region-stands W nulls IMPLICIT_REGION fits.0, task-stands W nulls INITIAL_TASK fits.1, fits.2, fits.3, refl)
  stands InitialTaskEnd sensible fits = (refl, null-stands fits.0, task-stands W nulls INITIAL_TASK fits.1, fits.2, fits.3, refl)
  stands (ParallelBegin r requested codeptr) sensible fits = (own-task fits.0, fits.1, region-stands W nulls r fits.2, fits.3, refl, fits.4)
  stands (ParallelEnd r codeptr) sensible fits = (region-stands W nulls r fits.0, own-task fits.1, refl, fits.2)
  stands (MemberBegin r k) sensible fits = (refl, region-stands W nulls r fits.0, task-stands W nulls k fits.1, fits.2, fits.3, refl)
  stands (MemberEnd r k) sensible fits = (refl, null-stands fits.0, task-stands W nulls k fits.1, fits.2, fits.3, refl)
  stands (TaskCreate task undeferred codeptr) sensible fits =
      (own-task fits.0, fits.1, task-stands W nulls task fits.2, created-flags (pooled_at W task).kind sensible, refl, fits.3)
  stands (TaskBegin prior task) sensible fits = (task-stands W nulls prior fits.0, refl, task-stands W nulls task fits.1)
  stands (TaskEnd task) sensible fits = (task-stands W nulls task fits.0, refl, own-task fits.1)
  stands (Work at which count codeptr) sensible fits =
      (work-kind which, endpoint-stands at, own-region fits.0, own-task fits.1, fits.2, fits.3)
  stands (Dispatch share) sensible fits = dispatch-stands share sensible fits
  stands (Masked at codeptr) sensible fits = (endpoint-stands at, own-region fits.0, own-task fits.1, fits.2)
  stands (Sync which at codeptr) sensible fits = sync-stands which codeptr at fits
  stands (MutexAcquire which wait_id codeptr) sensible fits = (mutex-kind which, refl, refl, fits.0, fits.1)
  stands (MutexAcquired which wait_id codeptr) sensible fits = (mutex-kind which, fits.0, fits.1)
  stands (MutexReleased which wait_id codeptr) sensible fits = (released-kind which sensible, fits.0, fits.1)
  stands (LockInit wait_id codeptr) sensible fits = (refl, refl, refl, fits.0, fits.1)
  stands (LockDestroy wait_id codeptr) sensible fits = (refl, fits.0, fits.1)
