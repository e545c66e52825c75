-- What is told at events: a chunk that is told has an iteration, and what is released is no test of a lock.
use Rattle.std.proofs.Common.{ℕ, ◌≡◌, ◌≤◌, ◌⊎◌, inl, inr, Bool, true, false, List, length, ap, subst}
use Rattle.std.specs.Prelude.{Option, Some, None}
use Rattle.c_model.specs.declared.point.Point.{Point}
use Rattle.c_model.specs.declared.point.Point.TheVariants as point
use Rattle.c_model.specs.declared.point.Work.{Work}
use Rattle.c_model.specs.declared.point.Work.TheVariants as work
use Rattle.c_model.specs.Step.{silent}
use Rattle.c_model.specs.Task.{Moment, Outcome}
use Rattle.c_model.specs.Task.Outcome.{Occurs}
use Rattle.task_pool.specs.declared.task.Task.{Task as PoolTask}
use Rattle.task_pool.specs.declared.task.TaskKind.{TaskKind}
use Rattle.task_pool.specs.declared.task.TaskKind.TheVariants as kind
use Rattle.task_pool.specs.Tasks.{task_at as pool_task_at}
use Rattle.task_pool.specs.View.{fresh_task, with_added}
use Rattle.omp_model.specs.declared.event.Event.{Event}
use Rattle.omp_model.specs.declared.event.Event.TheVariants as event
use Rattle.omp_model.specs.declared.event.Halt.{Halt}
use Rattle.omp_model.specs.declared.event.Outcome.TheVariants as came
use Rattle.omp_model.specs.declared.history.Entry.{Entry}
use Rattle.omp_model.specs.State.{Run, World}
use Rattle.omp_model.proofs.Alike.{HasSomeShare, QuietWorld}
use Rattle.omp_model.specs.Members.{current, current_region, view_of}
use Rattle.omp_model.specs.EventEffects.{Going, Happens, event_of_point, fault_of_point, going_by, go_of_code, effect_of_point, kind_of_task, past_point, told, unless, work_begin}
use Rattle.omp_model.specs.Legal.{after}
use Rattle.omp_model.specs.MadeWorld.{IsMadeWorld}
use Rattle.omp_model.specs.Turn.{turn}
use Rattle.omp_model.proofs.MadeWords.{added-last}
use Rattle.omp_model.proofs.AlikeWorlds.{made-alike, quiet-turn}
use Rattle.omp_model.proofs.Arriving.{Arrives, Reached, arrives}
use Rattle.omp_model.proofs.MadeRuns.{made-after}
use Rattle.omp_model.proofs.Turning.{Beside, GoOf, OfCode, Turned}
use Rattle.run_trace.proofs.Sensible.{IsSensible}
use Rattle.run_trace.proofs.Released.{IsNoTest, ReleasesNoTest, releases-no-test}
use Rattle.run_trace.proofs.Shares.{AreSome, some-after, some-quiet}

-- an event beside all code, to which a thread has come
beside-sensible : (W after : World) (t : ℕ) (e : Event) → AreSome W.threads → Reached W t e → IsSensible after e
beside-sensible W after t (event.Dispatch share) all at = subst HasSomeShare at.taken (all t)
beside-sensible W after t (event.MutexReleased which wait_id codeptr) all at = absurd at
beside-sensible W after t (event.TaskCreate task undeferred codeptr) all at = absurd at
beside-sensible W after t other all at = tt

-- Events of the code.

explicit-kind : (undeferred : Bool) (which : TaskKind) → which ≡ kind_of_task undeferred → (which ≡ kind.Explicit) ⊎ (which ≡ kind.Undeferred)
explicit-kind true which is = inr is
explicit-kind false which is = inl is

-- the task that is made last has the kind that it was made with
created-kind : (W : World) (parent r : ℕ) (which : TaskKind) → IsMadeWorld W → (pool_task_at (with_added W.pool parent r which).tasks (length W.tasks)).kind ≡ which
created-kind W parent r which made = ap (λ (task : PoolTask). task.kind) (added-last W.pool.tasks (fresh_task parent r which) (length W.tasks) made.pooled)

work-sensible : (V W : World) (t codeptr : ℕ) (what : Work) → IsSensible V (work_begin W t codeptr what)
work-sensible V W t codeptr (work.Loop start count step how) = tt
work-sensible V W t codeptr (work.Sections count) = tt
work-sensible V W t codeptr work.Single = tt

point-sensible : (run : Run) (W : World) (t : ℕ) (now : Moment) (what : Point) → IsMadeWorld W → IsNoTest what → IsSensible (past_point W (effect_of_point run W t now what) t now what) (event_of_point W t what)
unfolding effect_of_point
point-sensible run W t now (point.TaskCreate codeptr undeferred) made one =
    let which = kind_of_task undeferred in
    explicit-kind undeferred _ (created-kind W (current W t) (current_region W t) which made)
point-sensible run W t now (point.WorkBegin codeptr what) made one =
    let event = point.WorkBegin codeptr what in work-sensible (past_point W (effect_of_point run W t now event) t now event) W t codeptr what
point-sensible run W t now (point.MutexReleased codeptr wait_id which) made one = one
point-sensible run W t now other made one = tt

abbrev SensibleGoing : Going → Type 0
SensibleGoing (Happens e after) = IsSensible after e
SensibleGoing other = Unit {0}

unless-sensible : (halt : Option Halt) (e : Event) (after : World) → IsSensible after e → SensibleGoing (unless halt e after)
unless-sensible (Some halt) e after one = tt
unless-sensible None e after one = one

outcome-sensible : (run : Run) (W : World) (t : ℕ) (now : Moment) (outcome : Outcome) → IsMadeWorld W → ReleasesNoTest outcome → SensibleGoing (going_by run W t now outcome)
outcome-sensible run W t now (Occurs what tree) made one =
    unless-sensible (fault_of_point W t now.task what) (event_of_point W t what) (past_point W (effect_of_point run W t now what) t now what)
    (point-sensible run W t now what made one)
outcome-sensible run W t now other made one = tt

in_code-sensible : (run : Run) (W : World) (t : ℕ) → IsMadeWorld W → SensibleGoing (go_of_code run W t)
unfolding go_of_code
in_code-sensible run W t made =
    outcome-sensible run W t (told W t) (silent run.program (view_of W t) (told W t)) made (releases-no-test run.program (view_of W t) (told W t))

-- A turn.

go-sensible : (run : Run) (W after : World) (t : ℕ) (e : Event) → IsMadeWorld W → AreSome W.threads → GoOf run W t e after → IsSensible after e
go-sensible run W after t e made shares (OfCode comes happens) = subst SensibleGoing happens (in_code-sensible run W t made)
go-sensible run W after t e made shares (Beside meets happens) = beside-sensible W after t e shares (subst (Arrives W t) meets (arrives W t))

pub sensible : (run : Run) (history : List Entry) (t : ℕ) (e : Event) → 1 ≤ run.threads → (turn run (after run history) t).outcome ≡ came.Happens e → IsSensible (turn run (after run history) t).state.world e
sensible run history t e there happens =
    let S = after run history in
    let from = subst (Turned run (QuietWorld t S.world) t (turn run S t).state.world) happens (quiet-turn run t S) in
    let made = (made-alike S.world from.before from.holds.alike (made-after run history there).world).world in
    go-sensible run from.before (turn run S t).state.world t e made (some-quiet t S.world from.before from.holds (some-after run history there)) from.go
