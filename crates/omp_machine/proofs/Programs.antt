-- Of its run a turn's steps and events ask for the program alone, but for the limit of silent steps.
use Rattle.std.proofs.Common.{◌≡◌, ℕ, refl, ap}
use Rattle.c_model.specs.declared.point.Point.{Point}
use Rattle.c_model.specs.declared.point.Point.TheVariants.{LockDestroy, LockInit, MaskedBegin, MaskedEnd, MutexAcquire, MutexAcquired, MutexReleased, ParallelBegin, ParallelEnd, Sync, TaskCreate, WorkBegin, WorkEnd}
use Rattle.c_model.specs.Step.{silent}
use Rattle.c_model.specs.Task.{Moment, Outcome}
use Rattle.c_model.specs.Task.Outcome.{Asks, Ends, Limits, Occurs, StepsTo, Traps}
use Rattle.omp_model.specs.Members.{view_of}
use Rattle.omp_model.specs.State.{Run, World}
use Rattle.omp_model.specs.Silent.{silent_step}
use Rattle.omp_model.specs.EventEffects.{effect_of_point, event_of_point, fault_of_point, going_by, go_of_code, past_point, told, unless}
use Rattle.omp_board.specs.Board.{run_of}

-- a silent step
pub same-silence : (run : Run) (W : World) (t : ℕ) → silent_step run W t ≡ silent_step (run_of run.program) W t
unfolding silent_step
same-silence run W t = refl

-- what an event of the code changes
same-effect : (run : Run) (W : World) (t : ℕ) (now : Moment) (what : Point) → effect_of_point run W t now what ≡ effect_of_point (run_of run.program) W t now what
unfolding effect_of_point
same-effect run W t now (ParallelBegin codeptr requested) = refl
same-effect run W t now (ParallelEnd codeptr) = refl
same-effect run W t now (TaskCreate codeptr undeferred) = refl
same-effect run W t now (WorkBegin codeptr what) = refl
same-effect run W t now (WorkEnd codeptr which count) = refl
same-effect run W t now (MaskedBegin codeptr) = refl
same-effect run W t now (MaskedEnd codeptr) = refl
same-effect run W t now (Sync codeptr which at) = refl
same-effect run W t now (MutexAcquire codeptr wait_id which to) = refl
same-effect run W t now (MutexAcquired codeptr wait_id which) = refl
same-effect run W t now (MutexReleased codeptr wait_id which) = refl
same-effect run W t now (LockInit codeptr wait_id) = refl
same-effect run W t now (LockDestroy codeptr wait_id) = refl

same-by : (run : Run) (W : World) (t : ℕ) (now : Moment) (outcome : Outcome) → going_by run W t now outcome ≡ going_by (run_of run.program) W t now outcome
same-by run W t now (Occurs what tree) =
    ap (λ (after : World). unless (fault_of_point W t now.task what) (event_of_point W t what) (past_point W after t now what)) (same-effect run W t now what)
same-by run W t now (Traps trap) = refl
same-by run W t now (Limits limit) = refl
same-by run W t now (StepsTo next) = refl
same-by run W t now (Asks ask tree) = refl
same-by run W t now (Ends number) = refl

-- the Go of an event of the code
pub same-going : (run : Run) (W : World) (t : ℕ) → go_of_code run W t ≡ go_of_code (run_of run.program) W t
unfolding go_of_code
same-going run W t = same-by run W t (told W t) (silent run.program (view_of W t) (told W t))
