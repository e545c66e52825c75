-- What is open on a thread: regions, tasks, and what a task is in, the innermost first.
use Rattle.std.specs.Prelude.{ℕ, ◌==◌, ◌&&◌, Bool, false, List, [], ◌∷◌, drop, Option, Some, None, if◌then◌else◌}
use Rattle.omp_codes.specs.declared.endpoints.TheConstants.{BEGIN, END}
use Rattle.omp_codes.specs.declared.task_statuses.TheConstants.{COMPLETE, SWITCH}
use Rattle.ompt_calls.specs.declared.call.Call.{Call}
use Rattle.ompt_calls.specs.declared.call.Call.TheVariants.{ParallelBegin, ParallelEnd, TaskSchedule, ImplicitTask, SyncRegionWait, Work, Masked, SyncRegion}
use Rattle.trace_check.specs.declared.bracket.Bracket.{Bracket}
use Rattle.trace_check.specs.declared.bracket.Bracket.TheVariants.{Parallel, Implicit, Explicit, Worksharing, Masking, Syncing, Waiting}
use Rattle.trace_check.specs.declared.change.Change.{Change}
use Rattle.trace_check.specs.declared.change.Change.TheVariants.{Opens, Closes, Stays}

-- what an event does to the brackets of its thread: it opens one, closes one, or leaves them
abbrev pub at_endpoint : ℕ → Bracket → Change
at_endpoint endpoint bracket = if endpoint == BEGIN then Opens bracket else if endpoint == END then Closes bracket else Stays

-- a thread goes from the prior task to the next one, or it comes back from the prior one, which is complete
abbrev pub at_status : ℕ → ℕ → ℕ → Change
at_status status prior next =
    if status == SWITCH then Opens (Explicit prior next) else if status == COMPLETE then Closes (Explicit next prior) else Stays

abbrev pub change_of : Call → Change
change_of (ParallelBegin task frame region requested flags codeptr) = Opens (Parallel region.identity)
change_of (ParallelEnd region task flags codeptr) = Closes (Parallel region.identity)
change_of (TaskSchedule prior status next) = at_status status prior.identity next.identity
change_of (ImplicitTask endpoint region task actual index flags) = at_endpoint endpoint (Implicit task.identity)
change_of (SyncRegionWait kind endpoint region task codeptr) = at_endpoint endpoint (Waiting task.identity kind)
change_of (Work kind endpoint region task count codeptr) = at_endpoint endpoint (Worksharing region.identity task.identity kind count)
change_of (Masked endpoint region task codeptr) = at_endpoint endpoint (Masking task.identity)
change_of (SyncRegion kind endpoint region task codeptr) = at_endpoint endpoint (Syncing task.identity kind)
change_of other = Stays

-- the brackets after a change
abbrev pub changed : Change → List Bracket → List Bracket
changed (Opens bracket) brackets = bracket ∷ brackets
changed (Closes bracket) brackets = drop 1 brackets
changed Stays brackets = brackets

-- an open bracket and the end of one match: they are of one region, or of one task and kind. The region and the count of a work aren't compared
abbrev pub is_match : Bracket → Bracket → Bool
is_match (Parallel region) (Parallel other) = region == other
is_match (Implicit task) (Implicit other) = task == other
is_match (Explicit prior next) (Explicit others other) = (prior == others) && (next == other)
is_match (Worksharing region task kind count) (Worksharing others other like more) = (task == other) && (kind == like)
is_match (Masking task) (Masking other) = task == other
is_match (Syncing task kind) (Syncing other like) = (task == other) && (kind == like)
is_match (Waiting task kind) (Waiting other like) = (task == other) && (kind == like)
is_match bracket other = false

abbrev pub is_innermost : List Bracket → Bracket → Bool
is_innermost [] ended = false
is_innermost (bracket ∷ rest) ended = is_match bracket ended

-- the current task: the one that the innermost bracket of a task started
abbrev pub current_in : List Bracket → Option ℕ
current_in [] = None
current_in (Parallel region ∷ rest) = current_in rest
current_in (Implicit task ∷ rest) = Some task
current_in (Explicit prior next ∷ rest) = Some next
current_in (Worksharing region task kind count ∷ rest) = current_in rest
current_in (Masking task ∷ rest) = current_in rest
current_in (Syncing task kind ∷ rest) = current_in rest
current_in (Waiting task kind ∷ rest) = current_in rest
