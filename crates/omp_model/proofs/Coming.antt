-- Where a thread comes to a silent step of its code there is one, and where it comes to an event of it there is a Go: it occurs, or meets a trap or
-- a limit.
use Rattle.std.specs.Prelude.{◌≡◌, ℕ, ◌==◌, ◌&&◌, not, Bool, true, false, if◌then◌else◌, List, [], ◌∷◌, length, Option, Some, None, refl}
use Rattle.std.proofs.Common.{sym, subst}
use Rattle.c_syntax.specs.language.Numbered.{TreeView}
use Rattle.c_model.specs.declared.question.Answer.TheVariants as answer
use Rattle.c_model.specs.declared.point.MutexKind.TheVariants as mutex
use Rattle.c_model.specs.declared.point.SyncKind.{SyncKind}
use Rattle.c_model.specs.declared.point.SyncStage.{SyncStage}
use Rattle.c_model.specs.declared.point.SyncStage.TheVariants as stage
use Rattle.c_model.specs.declared.upcoming.Upcoming.{Upcoming}
use Rattle.c_model.specs.declared.upcoming.Upcoming.TheVariants as upcoming
use Rattle.c_model.specs.declared.view.View.{View}
use Rattle.c_model.specs.AfterEvents.{answered_at}
use Rattle.c_model.proofs.Fitting.{Fits}
use Rattle.c_model.specs.Step.{is_event, items_from_next, silent, step_at, step_of}
use Rattle.c_model.specs.Task.{StepStart, Item, Moment, Outcome}
use Rattle.c_model.specs.Task.Item.{Forked, Sync, Acquire, TestLock, Tested}
use Rattle.c_model.specs.Task.Outcome.{Asks, Ends, Limits, Occurs, StepsTo, Traps}
use Rattle.c_model.specs.Upcoming.{upcoming_among, upcoming_by_form, upcoming_of}
use Rattle.c_model.proofs.Settled.{next_once}
use Rattle.c_model.proofs.Standing.{fits-item}
use Rattle.task_pool.specs.declared.task.Condition.{Condition}
use Rattle.task_pool.specs.declared.task.Condition.TheVariants as condition
use Rattle.task_pool.specs.declared.task.TaskKind.{TaskKind}
use Rattle.task_pool.specs.declared.task.TaskKind.TheVariants as kind
use Rattle.omp_model.specs.declared.parts.ThreadStage.{ThreadStage}
use Rattle.omp_model.specs.declared.parts.ThreadStage.TheVariants as thread_stage
use Rattle.omp_model.specs.declared.event.Arrival.{Arrival}
use Rattle.omp_model.specs.declared.event.Arrival.TheVariants.{CodeEvent, RuntimeEvent, Steps, Waits}
use Rattle.omp_model.specs.declared.event.Event.{Event}
use Rattle.omp_model.specs.declared.event.Event.TheVariants.{InitialTaskEnd, MemberBegin, TaskBegin, ThreadEnd}
use Rattle.omp_model.specs.declared.event.Halt.{Halt}
use Rattle.omp_model.specs.declared.event.Share.{Share}
use Rattle.omp_model.specs.State.{Run, World, pooled_at, task_at, thread_at}
use Rattle.omp_model.specs.declared.limits.TheConstants.{IMPLICIT_REGION, INITIAL_TASK}
use Rattle.omp_model.specs.Members.{code_of, current, current_region, moment_of, view_of}
use Rattle.omp_model.specs.Gates.{all_left, arrival, arrival_around, arrival_at, arrival_at_end, arrival_at_sync, arrival_in, arrival_of_task, arrival_of_worker, arrival_with_share, arrival_with_undeferred, arrival_without_task, has_no_tasks, is_owned, main_returned, may_end, next_task, starts_if, workers_over}
use Rattle.omp_model.specs.Changes.{with_masked_skipped}
use Rattle.omp_model.specs.EventEffects.{Going, Nothing, Happens, Halts, going_by, go_of_code, told, unless}
use Rattle.omp_model.proofs.GonePast.{told-past}

-- it occurs, or meets a trap or a limit
abbrev pub IsGo : Going → Type 0
IsGo Nothing = ⊥
IsGo (Happens event after) = Unit {0}
IsGo (Halts halt) = Unit {0}

unless-goes : (halt : Option Halt) (which : Event) (after : World) → IsGo (unless halt which after)
unless-goes (Some halt) which after = tt
unless-goes None which after = tt

fits-goes : (run : Run) (W : World) (t : ℕ) (now : Moment) (outcome : Outcome) → Fits outcome true → IsGo (going_by run W t now outcome)
unfolding Fits
fits-goes run W t now (Occurs what tree) fits = unless-goes _ _ _
fits-goes run W t now (Traps trap) fits = tt
fits-goes run W t now (Limits limit) fits = tt
fits-goes run W t now (StepsTo next) fits = absurd fits
fits-goes run W t now (Asks ask tree) fits = absurd fits
fits-goes run W t now (Ends number) fits = absurd fits

-- what comes next is an event of the code, whether or not the thread has to wait for it
abbrev IsOfCode : Upcoming → Type 0
IsOfCode upcoming.Step = ⊥
IsOfCode upcoming.End = ⊥
IsOfCode other = Unit {0}

is-event-by : (item : Item) (so : Bool) → is_event item ≡ so → IsOfCode (if so then upcoming.Event else upcoming.Step) → is_event item ≡ true
is-event-by item true is gate = is
is-event-by item false is gate = absurd gate

by-form : (item : Item) → IsOfCode (upcoming_by_form item) → is_event item ≡ true
by-form item gate = is-event-by item (is_event item) refl gate

-- what comes next is a silent step, or may be one
abbrev IsStep : Upcoming → Type 0
IsStep upcoming.Step = Unit {0}
IsStep (upcoming.Test id) = Unit {0}
IsStep other = ⊥

is-step-by : (item : Item) (so : Bool) → is_event item ≡ so → IsStep (if so then upcoming.Event else upcoming.Step) → is_event item ≡ false
is-step-by item true is next = absurd next
is-step-by item false is next = is

step-form : (item : Item) → IsStep (upcoming_by_form item) → is_event item ≡ false
step-form item next = is-step-by item (is_event item) refl next

step-fits : (program : TreeView) (view : View) (now : Moment) (items : List Item) → IsStep (upcoming_among items) → Fits (step_at items program view now) false
step-fits program view now [] next = absurd next
step-fits program view now (TestLock call id to ∷ rest) next = fits-item (TestLock call id to) (record { program = program; view = view; task = record now.task { todo = rest }; store = now.store })
step-fits program view now (Forked construct ∷ rest) next = absurd next
step-fits program view now (Sync tree which at ∷ rest) next = absurd next
step-fits program view now (Acquire tree which id ∷ rest) next = absurd next
step-fits program view now (other ∷ rest) next =
    let here : StepStart = record { program = program; view = view; task = record now.task { todo = rest }; store = now.store } in
    subst (Fits (step_of other here)) (step-form other next) (fits-item other here)

-- a task whose next item is this one, when it has been told that a lock isn't owned
module _ (program : TreeView) (view : View) (now : Moment) where
  abbrev after_told : List Item → Outcome
  after_told items = silent program view (answered_at items (answer.Free true) now)

  -- the same item stands next
  same : (item : Item) (rest : List Item) → items_from_next view (item ∷ rest) ≡ item ∷ rest → is_event item ≡ true →
      Fits (step_at (items_from_next view (item ∷ rest)) program view (record now { task = record now.task { todo = item ∷ rest } })) true
  same item rest settled event =
      subst (λ (items : List Item). Fits (step_at items program view (record now { task = record now.task { todo = item ∷ rest } })) true) (sym settled)
      (subst (λ so. Fits (step_of item (record { program = program; view = view; task = record now.task { todo = rest }; store = now.store })) so) event (fits-item item _))

  told-fits : (items : List Item) → items_from_next view items ≡ items → IsOfCode (upcoming_among items) → Fits (after_told items) true
  unfolding silent items_from_next
  told-fits [] settled gate = absurd gate
  told-fits (TestLock call id to ∷ rest) settled gate = fits-item (Acquire call mutex.TestLock id) (record { program = program; view = view; task = record now.task { todo = Tested to ∷ rest }; store = now.store })
  told-fits (Forked construct ∷ rest) settled gate = same (Forked construct) rest settled refl
  told-fits (Sync tree which at ∷ rest) settled gate = same (Sync tree which at) rest settled refl
  told-fits (Acquire tree which id ∷ rest) settled gate = same (Acquire tree which id) rest settled refl
  told-fits (other ∷ rest) settled gate = same other rest settled (by-form other gate)

-- What comes next in the code, where the thread comes to a step of it, or to an event of it.
abbrev IsNext : Arrival → Upcoming → Type 0
IsNext Steps next = IsStep next
IsNext CodeEvent next = IsOfCode next
IsNext Waits next = Unit {0}
IsNext (RuntimeEvent event) next = Unit {0}

either : (next : Upcoming) (one other : Arrival) (b : Bool) → IsNext one next → IsNext other next → IsNext (if b then one else other) next
either next one other true first second = first
either next one other false first second = second

module _ (W : World) (t : ℕ) where
  starts : (next : Upcoming) (task : Option ℕ) → IsNext (starts_if W t task) next
  starts next None = tt
  starts next (Some task) = tt

  at-end : (k : ℕ) (next : Upcoming) (which : TaskKind) → IsNext (arrival_at_end W t k which) next
  at-end k next kind.Initial =
      either next (if workers_over W then RuntimeEvent InitialTaskEnd else Waits) (starts_if W t (next_task W t)) (has_no_tasks W (current_region W t))
      (either next (RuntimeEvent InitialTaskEnd) Waits (workers_over W) tt tt) (starts next (next_task W t))
  at-end k next kind.Implicit = tt
  at-end k next kind.Explicit = tt
  at-end k next kind.Undeferred = tt

  at-sync : (which : SyncKind) (at : SyncStage) → IsNext (arrival_at_sync W t which at) (upcoming.Sync which at)
  at-sync which stage.WaitEnd =
      either (upcoming.Sync which stage.WaitEnd) CodeEvent (starts_if W t (next_task W t)) (may_end W t which) tt (starts (upcoming.Sync which stage.WaitEnd) (next_task W t))
  at-sync which other = tt

  in-task : (k : ℕ) (next : Upcoming) → IsNext (arrival_in W t k next) next
  in-task k upcoming.Step = tt
  in-task k upcoming.Event = tt
  in-task k upcoming.End = at-end k upcoming.End (pooled_at W k).kind
  in-task k upcoming.RegionEnd = either upcoming.RegionEnd CodeEvent Waits (all_left W (task_at W k).forked) tt tt
  in-task k (upcoming.Sync which at) = at-sync which at
  in-task k (upcoming.Acquire id) = either (upcoming.Acquire id) CodeEvent Waits (not (is_owned W id)) tt tt
  in-task k (upcoming.Test id) = either (upcoming.Test id) Steps CodeEvent (is_owned W id) tt tt

  around : (next : Upcoming) (now : Condition) → IsNext (arrival_around now) next
  around next condition.Made = tt
  around next condition.Ready = tt
  around next condition.Started = tt
  around next condition.Finished = tt

  abbrev next : Upcoming
  next = upcoming_of (view_of W t) (code_of W t)

  of-task : (k : ℕ) → IsNext (arrival_of_task W t k) next
  of-task k =
      either next (arrival_without_task W t) (arrival_in W t k next) (k == 0)
      (either next (arrival_around (pooled_at W INITIAL_TASK).condition) (arrival_of_worker W) (t == 0) (around next (pooled_at W INITIAL_TASK).condition)
      (either next (RuntimeEvent ThreadEnd) Waits (main_returned W && has_no_tasks W IMPLICIT_REGION) tt tt))
      (in-task k next)

  with-share : (share : Option Share) → IsNext (arrival_with_share W t share) next
  with-share (Some share) = tt
  with-share None = of-task (current W t)

  with-undeferred : (task : ℕ) → IsNext (arrival_with_undeferred W t task) next
  with-undeferred task = either next (arrival_with_share W t (thread_at W t).taken) (RuntimeEvent (TaskBegin (current W t) task)) (task == 0) (with-share (thread_at W t).taken) tt

  at-stage : (now : ThreadStage) → IsNext (arrival_at W t now) next
  at-stage thread_stage.Unmade = tt
  at-stage thread_stage.Made = tt
  at-stage thread_stage.Begun =
      let r = (thread_at W t).invited in
      either next (arrival_with_undeferred W t (thread_at W t).undeferred) (RuntimeEvent (MemberBegin r (length W.tasks))) (r == 0) (with-undeferred (thread_at W t).undeferred) tt
  at-stage thread_stage.Ended = tt

  comes-next : IsNext (arrival W t) next
  unfolding arrival
  comes-next = at-stage (thread_at W t).stage

  -- where the thread comes to a silent step, its code makes one, or asks, or meets a trap or a limit
  pub steps-silent : (program : TreeView) → arrival W t ≡ Steps → Fits (silent program (view_of W t) (moment_of W t)) false
  unfolding silent
  steps-silent program is = step-fits program (view_of W t) (moment_of W t) (items_from_next (view_of W t) (code_of W t).todo) (subst (λ came. IsNext came next) is comes-next)

  -- where it comes to an event of its code, the event occurs, or the code meets a trap or a limit
  pub comes-told : (program : TreeView) → arrival W t ≡ CodeEvent → Fits (silent program (view_of W t) (told W t)) true
  comes-told program is =
      told-fits program (view_of W t) (record (moment_of W t) { task = record (code_of W t) { todo = items_from_next (view_of W t) (code_of W t).todo } })
      (items_from_next (view_of W t) (code_of W t).todo) (next_once (view_of W t) (code_of W t).todo) (subst (λ came. IsNext came next) is comes-next)

  -- .. also when its task has left out what it goes past
  pub comes-told-past : (program : TreeView) → arrival W t ≡ CodeEvent → Fits (silent program (view_of W t) (told (with_masked_skipped W t) t)) true
  comes-told-past program is = subst (λ now. Fits (silent program (view_of W t) now) true) (sym (told-past W t)) (comes-told program is)

  pub comes_goes : (run : Run) → arrival W t ≡ CodeEvent → IsGo (go_of_code run W t)
  unfolding go_of_code
  comes_goes run is = fits-goes run W t (told W t) (silent run.program (view_of W t) (told W t)) (comes-told run.program is)
