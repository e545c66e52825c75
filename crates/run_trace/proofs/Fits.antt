-- A callback of which each argument fits its field: what that says of those that may have any value.
use Rattle.std.proofs.Common.{arith}
use Rattle.ompt_calls.specs.declared.call.Call.{Call}
use Rattle.ompt_calls.specs.declared.call.Call.TheVariants.{ThreadBegin, ThreadEnd, ParallelBegin, ParallelEnd, TaskCreate, TaskSchedule, ImplicitTask, SyncRegionWait, MutexReleased, Work, Masked, SyncRegion, LockInit, LockDestroy, MutexAcquire, MutexAcquired, Dispatch}
use Rattle.trace_format.specs.Fitting.{FitsCall, FitsWord}
use Rattle.trace_format.specs.Validity.{IsFrame, IsLong, IsShort}
use Rattle.trace_format.proofs.Putting.{no_argument}

abbrev pub HasFit : Call → Type 0
HasFit (ThreadBegin kind thread) = FitsWord thread
HasFit (ThreadEnd thread) = FitsWord thread
HasFit (ParallelBegin task frame region requested flags codeptr) =
    FitsWord task × IsFrame frame × FitsWord region × IsShort requested × IsLong codeptr
HasFit (ParallelEnd region task flags codeptr) = FitsWord region × FitsWord task × IsLong codeptr
HasFit (TaskCreate task frame fresh flags has_dependences codeptr) = FitsWord task × IsFrame frame × FitsWord fresh × IsLong codeptr
HasFit (TaskSchedule prior status next) = FitsWord prior × FitsWord next
HasFit (ImplicitTask endpoint region task actual index flags) = FitsWord region × FitsWord task × IsShort actual × IsShort index
HasFit (SyncRegionWait kind endpoint region task codeptr) = FitsWord region × FitsWord task × IsLong codeptr
HasFit (MutexReleased kind wait_id codeptr) = IsShort wait_id × IsLong codeptr
HasFit (Work kind endpoint region task count codeptr) = FitsWord region × FitsWord task × IsLong count × IsLong codeptr
HasFit (Masked endpoint region task codeptr) = FitsWord region × FitsWord task × IsLong codeptr
HasFit (SyncRegion kind endpoint region task codeptr) = FitsWord region × FitsWord task × IsLong codeptr
HasFit (LockInit kind hint variant wait_id codeptr) = IsShort wait_id × IsLong codeptr
HasFit (LockDestroy kind wait_id codeptr) = IsShort wait_id × IsLong codeptr
HasFit (MutexAcquire kind hint variant wait_id codeptr) = IsShort wait_id × IsLong codeptr
HasFit (MutexAcquired kind wait_id codeptr) = IsShort wait_id × IsLong codeptr
HasFit (Dispatch region task kind start iterations) = FitsWord region × FitsWord task × IsLong start × IsLong iterations

pub has-fit : (call : Call) → FitsCall call → HasFit call
has-fit (ThreadBegin kind thread) fits = fits 1 no_argument (omega arith)
has-fit (ThreadEnd thread) fits = fits 0 no_argument (omega arith)
has-fit (ParallelBegin task frame region requested flags codeptr) fits = (fits 0 no_argument (omega arith), fits 1 no_argument (omega arith), fits 2 no_argument (omega arith), fits 3 no_argument (omega arith), fits 5 no_argument (omega arith))
has-fit (ParallelEnd region task flags codeptr) fits = (fits 0 no_argument (omega arith), fits 1 no_argument (omega arith), fits 3 no_argument (omega arith))
has-fit (TaskCreate task frame fresh flags has_dependences codeptr) fits = (fits 0 no_argument (omega arith), fits 1 no_argument (omega arith), fits 2 no_argument (omega arith), fits 5 no_argument (omega arith))
has-fit (TaskSchedule prior status next) fits = (fits 0 no_argument (omega arith), fits 2 no_argument (omega arith))
has-fit (ImplicitTask endpoint region task actual index flags) fits = (fits 1 no_argument (omega arith), fits 2 no_argument (omega arith), fits 3 no_argument (omega arith), fits 4 no_argument (omega arith))
has-fit (SyncRegionWait kind endpoint region task codeptr) fits = (fits 2 no_argument (omega arith), fits 3 no_argument (omega arith), fits 4 no_argument (omega arith))
has-fit (MutexReleased kind wait_id codeptr) fits = (fits 1 no_argument (omega arith), fits 2 no_argument (omega arith))
has-fit (Work kind endpoint region task count codeptr) fits = (fits 2 no_argument (omega arith), fits 3 no_argument (omega arith), fits 4 no_argument (omega arith), fits 5 no_argument (omega arith))
has-fit (Masked endpoint region task codeptr) fits = (fits 1 no_argument (omega arith), fits 2 no_argument (omega arith), fits 3 no_argument (omega arith))
has-fit (SyncRegion kind endpoint region task codeptr) fits = (fits 2 no_argument (omega arith), fits 3 no_argument (omega arith), fits 4 no_argument (omega arith))
has-fit (LockInit kind hint variant wait_id codeptr) fits = (fits 3 no_argument (omega arith), fits 4 no_argument (omega arith))
has-fit (LockDestroy kind wait_id codeptr) fits = (fits 1 no_argument (omega arith), fits 2 no_argument (omega arith))
has-fit (MutexAcquire kind hint variant wait_id codeptr) fits = (fits 3 no_argument (omega arith), fits 4 no_argument (omega arith))
has-fit (MutexAcquired kind wait_id codeptr) fits = (fits 1 no_argument (omega arith), fits 2 no_argument (omega arith))
has-fit (Dispatch region task kind start iterations) fits = (fits 0 no_argument (omega arith), fits 1 no_argument (omega arith), fits 3 no_argument (omega arith), fits 4 no_argument (omega arith))
