-- What a thread has open, told by the machine's state: the brackets of the tasks on its stack, the innermost first.
use Rattle.std.specs.Prelude.{ℕ, Bool, true, false, List, [], ◌∷◌, ◌++◌, map, slice_index_or}
use Rattle.c_brackets.specs.Opened.{Open, open_task}
use Rattle.c_brackets.specs.Opened.Open.{Forks, Works, Masks, Syncs, Awaits}
use Rattle.omp_model.specs.State.{World, task_at}
use Rattle.omp_model.specs.Members.{is_explicit_task, region_of}
use Rattle.omp_model.specs.EventEffects.{sync_number}
use Rattle.omp_model.specs.Calls.{work_number}
use Rattle.trace_check.specs.declared.bracket.Bracket.{Bracket}
use Rattle.trace_check.specs.declared.bracket.Bracket.TheVariants.{Parallel, Implicit, Explicit, Worksharing, Masking, Syncing, Waiting}

-- what the code of a task has open
abbrev pub opens_at : World → ℕ → List Open
opens_at W k = open_task (task_at W k).code

-- the same with numbers: of the task, of its region, and of the region that it has forked
abbrev pub bracket_of : World → ℕ → Open → Bracket
bracket_of W k Forks = Parallel (task_at W k).forked
bracket_of W k (Works kind count) = Worksharing (region_of W k) k (work_number kind) count
bracket_of W k Masks = Masking k
bracket_of W k (Syncs kind) = Syncing k (sync_number kind)
bracket_of W k (Awaits kind) = Waiting k (sync_number kind)

-- the bracket with which a task began, above these
abbrev pub begun_as : Bool → List ℕ → ℕ → Bracket
begun_as true below k = Explicit (slice_index_or below 0 0) k
begun_as false below k = Implicit k

-- what these tasks have open, the newest first
abbrev pub shown : World → List ℕ → List Bracket
shown W [] = []
shown W (k ∷ below) = map (bracket_of W k) (opens_at W k) ++ begun_as (is_explicit_task W k) below k ∷ shown W below
