-- What the Go of an event changes of the code of the current task, told by the event.
use Rattle.std.specs.Prelude.{ℕ, ◌≡◌, ◌==◌, ◌&&◌, ◌||◌, Bool, true, false, List, ◌∷◌, drop}
use Rattle.c_model.specs.declared.point.SyncKind.{SyncKind}
use Rattle.c_model.specs.declared.point.SyncKind.TheVariants as sync
use Rattle.c_model.specs.declared.point.SyncStage.{SyncStage}
use Rattle.c_model.specs.declared.point.SyncStage.TheVariants as stage
use Rattle.c_brackets.specs.Effects.{Effect, effect_at}
use Rattle.c_brackets.specs.Effects.Effect.{Opens, Closes, Leaves}
use Rattle.c_brackets.specs.Opened.{Open}
use Rattle.c_brackets.specs.Opened.Open.{Forks, Works, Masks}
use Rattle.omp_model.specs.declared.event.Endpoint.TheVariants.{Begin, End}
use Rattle.omp_model.specs.declared.event.Event.{Event}
use Rattle.omp_model.specs.declared.event.Event.TheVariants.{Masked, MutexAcquire, MutexAcquired, ParallelBegin, ParallelEnd, Sync, Work}
use Rattle.omp_model.specs.State.{World}
use Rattle.omp_model.specs.Members.{current}
use Rattle.nested_runs.proofs.Standing.{Stand, has_begun, stand_within}
use Rattle.nested_runs.proofs.Standing.Stand.{Free, AtFork, AtMutex, AtSync}

-- ---- the code: what it has open, and where it stands

abbrev pub effect_of_event : Event → Effect
effect_of_event (ParallelBegin r requested codeptr) = Opens Forks
effect_of_event (ParallelEnd r codeptr) = Closes Forks
effect_of_event (Work Begin which count codeptr) = Opens (Works which count)
effect_of_event (Work End which count codeptr) = Closes (Works which count)
effect_of_event (Masked Begin codeptr) = Opens Masks
effect_of_event (Masked End codeptr) = Closes Masks
effect_of_event (Sync which at codeptr) = effect_at which at
effect_of_event other = Leaves

abbrev pub opens_after : Effect → List Open → List Open
opens_after (Opens one) opened = one ∷ opened
opens_after (Closes one) opened = drop 1 opened
opens_after Leaves opened = opened

-- what ends is the newest
abbrev pub EndsNewest : Effect → List Open → Type 0
EndsNewest (Opens one) opened = Unit {0}
EndsNewest (Closes one) opened = (older : List Open) × (opened ≡ one ∷ older)
EndsNewest Leaves opened = Unit {0}

-- where the code stands before its event and behind it
abbrev pub stand_before : Event → Stand
stand_before (ParallelEnd r codeptr) = AtFork
stand_before (Sync which at codeptr) = stand_within which at
stand_before (MutexAcquired which id codeptr) = AtMutex which id
stand_before other = Free

abbrev pub stand_behind : SyncKind → SyncStage → Stand
stand_behind which stage.RegionBegin = AtSync which stage.WaitBegin
stand_behind which stage.WaitBegin = AtSync which stage.WaitEnd
stand_behind which stage.WaitEnd = AtSync which stage.RegionEnd
stand_behind which stage.RegionEnd = Free

abbrev pub stand_after : Event → Stand
stand_after (ParallelBegin r requested codeptr) = AtFork
stand_after (Sync which at codeptr) = stand_behind which at
stand_after (MutexAcquire which id codeptr) = AtMutex which id
stand_after other = Free

-- the events of a region's barrier, and those but for the first
abbrev pub is_at_region_barrier : Event → Bool
is_at_region_barrier (Sync sync.Parallel at codeptr) = true
is_at_region_barrier other = false

abbrev pub is_in_region_barrier : Event → Bool
is_in_region_barrier (Sync sync.Parallel at codeptr) = has_begun at
is_in_region_barrier other = false

-- the code of a member is behind after these
abbrev pub behind_after : World → ℕ → Event → ℕ → Bool → Bool
behind_after W t event k behind = (is_at_region_barrier event && k == current W t) || behind
