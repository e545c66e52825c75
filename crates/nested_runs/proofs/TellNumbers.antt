-- The greatest identities that were told are the last ones that were made (rules 4 and 10).
use Rattle.std.proofs.Common.{ℕ, ◌≡◌, ◌≤◌, ◌+◌, ◌==◌, ◌&&◌, true, List, [], ◌∷◌, max, length, slice_index_or, refl, sym, ap, ap₂, ◌∙◌, arith}
use Rattle.std.specs.Prelude.{Some}
use Rattle.std.proofs.lemmas.Bool.{eq-eqb}
use Rattle.c_model.specs.declared.point.SyncStage.TheVariants as stage
use Rattle.ompt_calls.specs.declared.event.EventRecord.{EventRecord}
use Rattle.omp_model.specs.declared.event.Event.{Event}
use Rattle.omp_model.specs.declared.event.Event.TheVariants.{Dispatch, MemberBegin, ParallelBegin, Sync, TaskCreate}
use Rattle.omp_model.specs.declared.event.Share.TheVariants.{Chunk, Section}
use Rattle.omp_model.specs.State.{Run, Thread, World, first_world, thread_at}
use Rattle.omp_model.specs.Members.{current}
use Rattle.omp_model.specs.Calls.{call_of}
use Rattle.omp_model.proofs.Touching.{regions_after, tasks_after, thread_after}
use Rattle.nested_runs.proofs.Coming.{Comes}
use Rattle.nested_runs.proofs.Readings.{region_by, task_by}
use Rattle.nested_runs.proofs.Recorded.{Inside, recorded}
use Rattle.nested_runs.proofs.Knows.{ComesBack, Goes, IsWholeRun, Stays}
use Rattle.trace_check.specs.Before.{current as current_task, greatest_region, greatest_task, is_just}
use Rattle.trace_check.specs.Rules.{keeps_creations, keeps_regions}
use Rattle.nested_runs.proofs.Known.{TellsNumbers}
use Rattle.nested_runs.proofs.CallReadings.{region-is, task-is}
use Rattle.nested_runs.proofs.TellBrackets.{current-known}

-- at the start
pub numbers-first : (run : Run) → IsWholeRun run → TellsNumbers (first_world run) []
numbers-first run whole = record { regions = refl; tasks = refl }

-- after what is no event
pub numbers-stays : (run : Run) (W after : World) (I J : Inside) (past : List EventRecord) → Stays run W after I J past → TellsNumbers after past
numbers-stays run W after I J past stays =
    record { regions = stays.knows.numbers.regions ∙ sym stays.alike.world.regions; tasks = stays.knows.numbers.tasks ∙ sym stays.alike.world.tasks }

-- after the Go of an event
region-next : (W : World) (t : ℕ) (e : Event) (greatest : ℕ) → Comes W t e → greatest + 1 ≡ length W.regions →
    max (region_by e) greatest + 1 ≡ regions_after e (length W.regions)
region-next W t (ParallelBegin r requested codeptr) greatest comes known = let next = comes.1.region in omega (arith, next, known)
region-next W t e greatest comes known = omega (arith, known)

task-next : (W : World) (t : ℕ) (e : Event) (greatest : ℕ) → Comes W t e → greatest + 1 ≡ length W.tasks →
    max (task_by e) greatest + 1 ≡ tasks_after e (length W.tasks)
task-next W t (MemberBegin r k) greatest comes known = let next = comes.task in omega (arith, next, known)
task-next W t (TaskCreate task undeferred codeptr) greatest comes known = let next = comes.1 in omega (arith, next, known)
task-next W t e greatest comes known = omega (arith, known)

pub numbers-go : (run : Run) (W after : World) (I J : Inside) (past : List EventRecord) (t position : ℕ) (e : Event) → Goes run W after I J past t e →
    TellsNumbers after (recorded position t after e ∷ past)
numbers-go run W after I J past t position e goes =
    record {
      regions =
          ap (λ made. max made (greatest_region past) + 1) (region-is after t e)
          ∙ region-next W t e (greatest_region past) goes.comes goes.knows.numbers.regions ∙ sym goes.touches.world.regions;
      tasks =
          ap (λ made. max made (greatest_task past) + 1) (task-is after t e)
          ∙ task-next W t e (greatest_task past) goes.comes goes.knows.numbers.tasks ∙ sym goes.touches.world.tasks;
    }

-- after its Back
pub numbers-back : (run : Run) (W after : World) (I J : Inside) (past : List EventRecord) (t : ℕ) (e : Event) → ComesBack run W after I J past t e →
    TellsNumbers after past
numbers-back run W after I J past t e back =
    record { regions = back.knows.numbers.regions ∙ sym back.returns.regions; tasks = back.knows.numbers.tasks ∙ sym back.returns.tasks }

-- the next one, of the thread's current task
next-of : (past : List EventRecord) (t made greatest count k before : ℕ) → made ≡ count → greatest + 1 ≡ count → k ≡ before →
    current_task t past ≡ Some before →
    ((made == greatest + 1) && is_just k (current_task t past)) ≡ true
next-of past t made greatest count k before next known is told =
    ap₂ ◌&&◌ (eq-eqb _ _ (next ∙ sym known)) (ap (is_just k) told ∙ eq-eqb before k (sym is))

-- rule 4
keeps-region : (W after : World) (t : ℕ) (e : Event) (past : List EventRecord) → Comes W t e → thread_at after t ≡ thread_after e (thread_at W t) →
    greatest_region past + 1 ≡ length W.regions → (1 ≤ current W t → current_task t past ≡ Some (current W t)) → keeps_regions past t (call_of after t e) ≡ true
unfolding call_of
keeps-region W after t (ParallelBegin r requested codeptr) past comes own known told =
    next-of past t r _ _ _ _ comes.1.region known (ap (λ (x : Thread). slice_index_or x.stack 0 0) own) (told comes.0.within.some)
keeps-region W after t (Sync which stage.RegionBegin codeptr) past comes own known told = refl
keeps-region W after t (Sync which stage.WaitBegin codeptr) past comes own known told = refl
keeps-region W after t (Sync which stage.WaitEnd codeptr) past comes own known told = refl
keeps-region W after t (Sync which stage.RegionEnd codeptr) past comes own known told = refl
keeps-region W after t (Dispatch (Chunk start count)) past comes own known told = refl
keeps-region W after t (Dispatch (Section codeptr)) past comes own known told = refl
keeps-region W after t e past comes own known told = refl

pub keeps-regions : (run : Run) (W after : World) (I J : Inside) (past : List EventRecord) (t position : ℕ) (e : Event) → Goes run W after I J past t e →
    keeps_regions past t (recorded position t after e).call ≡ true
keeps-regions run W after I J past t position e goes =
    keeps-region W after t e past goes.comes goes.touches.world.own goes.knows.numbers.regions (current-known run W I past t goes.knows)

-- rule 10
keeps-creation : (W after : World) (t : ℕ) (e : Event) (past : List EventRecord) → Comes W t e → thread_at after t ≡ thread_after e (thread_at W t) →
    greatest_task past + 1 ≡ length W.tasks → (1 ≤ current W t → current_task t past ≡ Some (current W t)) → keeps_creations past t (call_of after t e) ≡ true
unfolding call_of
keeps-creation W after t (TaskCreate task undeferred codeptr) past comes own known told =
    next-of past t task _ _ _ _ comes.1 known (ap (λ (x : Thread). slice_index_or x.stack 0 0) own) (told comes.0.within.some)
keeps-creation W after t (Sync which stage.RegionBegin codeptr) past comes own known told = refl
keeps-creation W after t (Sync which stage.WaitBegin codeptr) past comes own known told = refl
keeps-creation W after t (Sync which stage.WaitEnd codeptr) past comes own known told = refl
keeps-creation W after t (Sync which stage.RegionEnd codeptr) past comes own known told = refl
keeps-creation W after t (Dispatch (Chunk start count)) past comes own known told = refl
keeps-creation W after t (Dispatch (Section codeptr)) past comes own known told = refl
keeps-creation W after t e past comes own known told = refl

pub keeps-creations : (run : Run) (W after : World) (I J : Inside) (past : List EventRecord) (t position : ℕ) (e : Event) → Goes run W after I J past t e →
    keeps_creations past t (recorded position t after e).call ≡ true
keeps-creations run W after I J past t position e goes =
    keeps-creation W after t e past goes.comes goes.touches.world.own goes.knows.numbers.tasks (current-known run W I past t goes.knows)
