-- A callback can have its arguments exactly where each is of its kind, and what was dispatched has its iterations.
use Rattle.std.proofs.Common.{ℕ, ◌≡◌, ◌<◌, ◌^◌, ◌==◌, true, List, length, refl, arith, eq-eqb}
use Rattle.std.proofs.lemmas.Bool.{eqb-true}
use Rattle.omp_codes.specs.declared.mutex_kinds.TheConstants.{LOCK}
use Rattle.ompt_calls.specs.declared.call.Call.{Call}
use Rattle.ompt_calls.specs.declared.call.Call.TheVariants.{ThreadBegin, ThreadEnd, ParallelBegin, ParallelEnd, TaskCreate, TaskSchedule, ImplicitTask, SyncRegionWait, MutexReleased, Work, Masked, SyncRegion, LockInit, LockDestroy, MutexAcquire, MutexAcquired, Dispatch}
use Rattle.ompt_calls.specs.Arguments.{arguments_of}
use Rattle.ompt_calls.specs.Number.{number_of}
use Rattle.trace_format.specs.Accepting.{AreOf, HasItsIterations, kinds_of}
use Rattle.trace_format.specs.Validity.{IsAmong, IsCall, IsShort, dispatch_kinds, endpoints, implicit_flags, is_among, mutex_kinds, parallel_flags, release_kinds, statuses, sync_kinds, task_flags, thread_kinds, work_kinds}
use Rattle.trace_format.proofs.Values.{among_below, below}

-- a number that is among these, and one that is this
listed : (list : List ℕ) (n : ℕ) → below (2 ^ 32) list ≡ true → IsAmong list n → IsShort n × (is_among list n ≡ true)
listed list n small among = (among_below list n (2 ^ 32) small among, among)

single : (n x : ℕ) → x < 2 ^ 32 → n ≡ x → IsShort n × ((n == x) ≡ true)
single n x small same = (omega (arith, small, same), eq-eqb n x same)

pub same-length : (call : Call) → length (kinds_of (number_of call)) ≡ length (arguments_of call)
same-length (ThreadBegin kind thread) = refl
same-length (ThreadEnd thread) = refl
same-length (ParallelBegin task frame region requested flags codeptr) = refl
same-length (ParallelEnd region task flags codeptr) = refl
same-length (TaskCreate task frame fresh flags has_dependences codeptr) = refl
same-length (TaskSchedule prior status next) = refl
same-length (ImplicitTask endpoint region task actual index flags) = refl
same-length (SyncRegionWait kind endpoint region task codeptr) = refl
same-length (MutexReleased kind wait_id codeptr) = refl
same-length (Work kind endpoint region task count codeptr) = refl
same-length (Masked endpoint region task codeptr) = refl
same-length (SyncRegion kind endpoint region task codeptr) = refl
same-length (LockInit kind hint variant wait_id codeptr) = refl
same-length (LockDestroy kind wait_id codeptr) = refl
same-length (MutexAcquire kind hint variant wait_id codeptr) = refl
same-length (MutexAcquired kind wait_id codeptr) = refl
same-length (Dispatch region task kind start iterations) = refl

pub call-of : (call : Call) → IsCall call → AreOf (kinds_of (number_of call)) (arguments_of call) × HasItsIterations call
call-of (ThreadBegin kind thread) is = ((listed thread_kinds kind refl is.0, (is.1, tt)), tt)
call-of (ThreadEnd thread) is = ((is, tt), tt)
call-of (ParallelBegin task frame region requested flags codeptr) is = ((is.0, (is.1, (is.2, ((is.3, refl), (single flags parallel_flags (omega arith) is.4, (is.5, tt)))))), tt)
call-of (ParallelEnd region task flags codeptr) is = ((is.0, (is.1, (single flags parallel_flags (omega arith) is.2, (is.3, tt)))), tt)
call-of (TaskCreate task frame fresh flags has_dependences codeptr) is = ((is.0, (is.1, (is.2, (listed task_flags flags refl is.3, (single has_dependences 0 (omega arith) is.4, (is.5, tt)))))), tt)
call-of (TaskSchedule prior status next) is = ((is.0, (listed statuses status refl is.1, (is.2, tt))), tt)
call-of (ImplicitTask endpoint region task actual index flags) is = ((listed endpoints endpoint refl is.0, (is.1, (is.2, ((is.3, refl), ((is.4, refl), (listed implicit_flags flags refl is.5, tt)))))), tt)
call-of (SyncRegionWait kind endpoint region task codeptr) is = ((listed sync_kinds kind refl is.0, (listed endpoints endpoint refl is.1, (is.2, (is.3, (is.4, tt))))), tt)
call-of (MutexReleased kind wait_id codeptr) is = ((listed release_kinds kind refl is.0, ((is.1, refl), (is.2, tt))), tt)
call-of (Work kind endpoint region task count codeptr) is = ((listed work_kinds kind refl is.0, (listed endpoints endpoint refl is.1, (is.2, (is.3, (is.4, (is.5, tt)))))), tt)
call-of (Masked endpoint region task codeptr) is = ((listed endpoints endpoint refl is.0, (is.1, (is.2, (is.3, tt)))), tt)
call-of (SyncRegion kind endpoint region task codeptr) is = ((listed sync_kinds kind refl is.0, (listed endpoints endpoint refl is.1, (is.2, (is.3, (is.4, tt))))), tt)
call-of (LockInit kind hint variant wait_id codeptr) is = ((single kind LOCK (omega arith) is.0, (single hint 0 (omega arith) is.1, (single variant 0 (omega arith) is.2, ((is.3, refl), (is.4, tt))))), tt)
call-of (LockDestroy kind wait_id codeptr) is = ((single kind LOCK (omega arith) is.0, ((is.1, refl), (is.2, tt))), tt)
call-of (MutexAcquire kind hint variant wait_id codeptr) is = ((listed mutex_kinds kind refl is.0, (single hint 0 (omega arith) is.1, (single variant 0 (omega arith) is.2, ((is.3, refl), (is.4, tt))))), tt)
call-of (MutexAcquired kind wait_id codeptr) is = ((listed mutex_kinds kind refl is.0, ((is.1, refl), (is.2, tt))), tt)
call-of (Dispatch region task kind start iterations) is = ((is.0, (is.1, (listed dispatch_kinds kind refl is.3.0, (is.2, (is.3.3, tt))))), is.3)

pub of-call : (call : Call) → AreOf (kinds_of (number_of call)) (arguments_of call) × HasItsIterations call → IsCall call
of-call (ThreadBegin kind thread) is = (is.0.0.1, is.0.1.0)
of-call (ThreadEnd thread) is = is.0.0
of-call (ParallelBegin task frame region requested flags codeptr) is = (is.0.0, is.0.1.0, is.0.1.1.0, is.0.1.1.1.0.0, eqb-true flags parallel_flags is.0.1.1.1.1.0.1, is.0.1.1.1.1.1.0)
of-call (ParallelEnd region task flags codeptr) is = (is.0.0, is.0.1.0, eqb-true flags parallel_flags is.0.1.1.0.1, is.0.1.1.1.0)
of-call (TaskCreate task frame fresh flags has_dependences codeptr) is = (is.0.0, is.0.1.0, is.0.1.1.0, is.0.1.1.1.0.1, eqb-true has_dependences 0 is.0.1.1.1.1.0.1, is.0.1.1.1.1.1.0)
of-call (TaskSchedule prior status next) is = (is.0.0, is.0.1.0.1, is.0.1.1.0)
of-call (ImplicitTask endpoint region task actual index flags) is = (is.0.0.1, is.0.1.0, is.0.1.1.0, is.0.1.1.1.0.0, is.0.1.1.1.1.0.0, is.0.1.1.1.1.1.0.1)
of-call (SyncRegionWait kind endpoint region task codeptr) is = (is.0.0.1, is.0.1.0.1, is.0.1.1.0, is.0.1.1.1.0, is.0.1.1.1.1.0)
of-call (MutexReleased kind wait_id codeptr) is = (is.0.0.1, is.0.1.0.0, is.0.1.1.0)
of-call (Work kind endpoint region task count codeptr) is = (is.0.0.1, is.0.1.0.1, is.0.1.1.0, is.0.1.1.1.0, is.0.1.1.1.1.0, is.0.1.1.1.1.1.0)
of-call (Masked endpoint region task codeptr) is = (is.0.0.1, is.0.1.0, is.0.1.1.0, is.0.1.1.1.0)
of-call (SyncRegion kind endpoint region task codeptr) is = (is.0.0.1, is.0.1.0.1, is.0.1.1.0, is.0.1.1.1.0, is.0.1.1.1.1.0)
of-call (LockInit kind hint variant wait_id codeptr) is = (eqb-true kind LOCK is.0.0.1, eqb-true hint 0 is.0.1.0.1, eqb-true variant 0 is.0.1.1.0.1, is.0.1.1.1.0.0, is.0.1.1.1.1.0)
of-call (LockDestroy kind wait_id codeptr) is = (eqb-true kind LOCK is.0.0.1, is.0.1.0.0, is.0.1.1.0)
of-call (MutexAcquire kind hint variant wait_id codeptr) is = (is.0.0.1, eqb-true hint 0 is.0.1.0.1, eqb-true variant 0 is.0.1.1.0.1, is.0.1.1.1.0.0, is.0.1.1.1.1.0)
of-call (MutexAcquired kind wait_id codeptr) is = (is.0.0.1, is.0.1.0.0, is.0.1.1.0)
of-call (Dispatch region task kind start iterations) is = (is.0.0, is.0.1.0, is.0.1.1.1.0, is.1)
