-- Whole and stuck histories, and the cause in which a run ends.
use Rattle.std.specs.Prelude.{ℤ, pos, negsuc, zero, suc, ◌&&◌, Bool, if◌then◌else◌, List, Option, Some, None, is_none, unwrap_or}
use Rattle.std.specs.List.{list_all}
use Rattle.omp_model.specs.declared.limits.TheConstants.{INITIAL_TASK}
use Rattle.omp_model.specs.declared.cause.Cause.{Cause}
use Rattle.omp_model.specs.declared.cause.Cause.TheVariants as cause
use Rattle.omp_model.specs.declared.history.Entry.{Entry}
use Rattle.omp_model.specs.declared.event.Callback.{Callback}
use Rattle.omp_model.specs.declared.event.Halt.{Halt}
use Rattle.omp_model.specs.declared.event.Halt.TheVariants.{Trap, Limit}
use Rattle.omp_model.specs.State.{Run, World, State, Thread, task_at}
use Rattle.omp_model.specs.Gates.{is_out, main_returned}
use Rattle.omp_model.specs.Legal.{after}
use Rattle.omp_model.specs.Serial.{enabled_among}

-- every thread that was made has ended
abbrev pub threads_over : World → Bool
threads_over W = list_all (λ (thread : Thread). is_out thread.stage) W.threads

-- what main returned
abbrev pub main_value : World → ℤ
main_value W = unwrap_or (task_at W INITIAL_TASK).code.returned (pos 0)

-- .. where every thread that was made has ended and main returned
abbrev pub whole_value : World → Option ℤ
whole_value W = if threads_over W && main_returned W then Some (main_value W) else None

-- no thread is inside a callback
abbrev pub none_pending : State → Bool
none_pending S = list_all (λ (callback : Option Callback). is_none callback) S.pending

-- no thread is enabled and none is inside a callback, the run isn't halted and isn't whole
abbrev pub is_stuck : Run → State → Bool
is_stuck run S = is_none (enabled_among S 0 run.threads) && none_pending S && is_none S.halt && is_none (whole_value S.world)

-- main returned this
abbrev pub cause_of_value : ℤ → Cause
cause_of_value (pos zero) = cause.Done
cause_of_value (pos (suc n)) = cause.Returned (pos (suc n))
cause_of_value (negsuc n) = cause.Returned (negsuc n)

abbrev pub cause_of_halt : Halt → Cause
cause_of_halt (Trap number) = cause.Trapped number
cause_of_halt (Limit number) = cause.Limit number

abbrev pub cause_of_whole : Run → State → Option ℤ → Option Cause
cause_of_whole run S (Some value) = Some (cause_of_value value)
cause_of_whole run S None = if is_stuck run S then Some cause.Deadlock else None

abbrev pub cause_by_halt : Run → State → Option Halt → Option Cause
cause_by_halt run S (Some halt) = Some (cause_of_halt halt)
cause_by_halt run S None = cause_of_whole run S (whole_value S.world)

-- the cause in which the run has ended in this state, if it has
abbrev pub cause_in : Run → State → Option Cause
cause_in run S = cause_by_halt run S S.halt

-- the cause in which a history ends, if it does
abbrev pub cause_of : Run → List Entry → Option Cause
cause_of run history = cause_in run (after run history)
