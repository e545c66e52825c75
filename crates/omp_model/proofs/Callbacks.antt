-- The number of an event's callback is that of its call, whatever the world.
use Rattle.std.proofs.Common.{ℕ, ◌≡◌, refl}
use Rattle.c_model.specs.declared.point.SyncKind.{SyncKind}
use Rattle.c_model.specs.declared.point.SyncStage.{SyncStage}
use Rattle.c_model.specs.declared.point.SyncStage.TheVariants as stage
use Rattle.ompt_calls.specs.Number.{number_of}
use Rattle.omp_model.specs.Calls.{call_of, callback_of, dispatch_call, sync_call, sync_callback}
use Rattle.omp_model.specs.State.{World}
use Rattle.omp_model.specs.declared.event.Event.{Event}
use Rattle.omp_model.specs.declared.event.Event.TheVariants.{Dispatch, InitialTaskBegin, InitialTaskEnd, LockDestroy, LockInit, Masked, MemberBegin, MemberEnd, MutexAcquire, MutexAcquired, MutexReleased, ParallelBegin, ParallelEnd, Sync, TaskBegin, TaskCreate, TaskEnd, ThreadBegin, ThreadEnd, Work}
use Rattle.omp_model.specs.declared.event.Share.{Share}
use Rattle.omp_model.specs.declared.event.Share.TheVariants.{Chunk, Section}
use Rattle.omp_codes.specs.declared.callbacks.TheConstants.{DISPATCH}

dispatch_number : (W : World) (t : ℕ) (share : Share) → number_of (dispatch_call W t share) ≡ DISPATCH
dispatch_number W t (Chunk start count) = refl
dispatch_number W t (Section codeptr) = refl

sync_number_of : (W : World) (t : ℕ) (which : SyncKind) (codeptr : ℕ) (at : SyncStage) → number_of (sync_call W t which codeptr at) ≡ sync_callback at
sync_number_of W t which codeptr stage.RegionBegin = refl
sync_number_of W t which codeptr stage.WaitBegin = refl
sync_number_of W t which codeptr stage.WaitEnd = refl
sync_number_of W t which codeptr stage.RegionEnd = refl

pub number_of_call : (W : World) (t : ℕ) (event : Event) → number_of (call_of W t event) ≡ callback_of event
unfolding call_of
number_of_call W t ThreadBegin = refl
number_of_call W t ThreadEnd = refl
number_of_call W t InitialTaskBegin = refl
number_of_call W t InitialTaskEnd = refl
number_of_call W t (ParallelBegin r requested codeptr) = refl
number_of_call W t (ParallelEnd r codeptr) = refl
number_of_call W t (MemberBegin r k) = refl
number_of_call W t (MemberEnd r k) = refl
number_of_call W t (TaskCreate task undeferred codeptr) = refl
number_of_call W t (TaskBegin prior task) = refl
number_of_call W t (TaskEnd task) = refl
number_of_call W t (Work at which count codeptr) = refl
number_of_call W t (Dispatch share) = dispatch_number W t share
number_of_call W t (Masked at codeptr) = refl
number_of_call W t (Sync which at codeptr) = sync_number_of W t which codeptr at
number_of_call W t (MutexAcquire which wait_id codeptr) = refl
number_of_call W t (MutexAcquired which wait_id codeptr) = refl
number_of_call W t (MutexReleased which wait_id codeptr) = refl
number_of_call W t (LockInit wait_id codeptr) = refl
number_of_call W t (LockDestroy wait_id codeptr) = refl
