-- What is so where a thread has come to an event: it is the inverse of `arrival`.
use Rattle.std.proofs.Common.{◌≡◌, ℕ, zero, suc, ◌≤◌, ◌==◌, ◌&&◌, ◌⊎◌, not, Bool, true, false, if◌then◌else◌, length, refl, sym, ap, ◌∙◌, subst, inl, inr, arith}
use Rattle.std.specs.Prelude.{Option, Some, None}
use Rattle.std.proofs.lemmas.Bool.{and_parts, eqb-true, ne_eqb, true≢false}
use Rattle.c_model.specs.declared.point.SyncKind.{SyncKind}
use Rattle.c_model.specs.declared.point.SyncStage.{SyncStage}
use Rattle.c_model.specs.declared.point.SyncStage.TheVariants as stage
use Rattle.c_model.specs.declared.upcoming.Upcoming.{Upcoming}
use Rattle.c_model.specs.declared.upcoming.Upcoming.TheVariants as upcoming
use Rattle.c_model.specs.Upcoming.{upcoming_of}
use Rattle.task_pool.specs.declared.task.Condition.{Condition}
use Rattle.task_pool.specs.declared.task.Condition.TheVariants as condition
use Rattle.task_pool.specs.declared.task.TaskKind.{TaskKind}
use Rattle.task_pool.specs.declared.task.TaskKind.TheVariants as kind
use Rattle.task_pool.specs.Tasks.{is_explicit}
use Rattle.omp_model.specs.declared.limits.TheConstants.{IMPLICIT_REGION, INITIAL_TASK}
use Rattle.omp_model.specs.declared.parts.ThreadStage.{ThreadStage}
use Rattle.omp_model.specs.declared.parts.ThreadStage.TheVariants as thread_stage
use Rattle.omp_model.specs.declared.event.Arrival.{Arrival}
use Rattle.omp_model.specs.declared.event.Arrival.TheVariants.{CodeEvent, RuntimeEvent, Steps, Waits}
use Rattle.omp_model.specs.declared.event.Event.{Event}
use Rattle.omp_model.specs.declared.event.Event.TheVariants as event
use Rattle.omp_model.specs.declared.event.Share.{Share}
use Rattle.omp_model.specs.State.{World, pooled_at, task_at, thread_at}
use Rattle.omp_model.specs.Members.{code_of, current, current_region, is_explicit_task, region_of, view_of}
use Rattle.omp_model.specs.Gates.{all_left, arrival, arrival_around, arrival_at, arrival_at_end, arrival_at_sync, arrival_in, arrival_invited, arrival_of_task, arrival_of_worker, arrival_with_share, arrival_with_undeferred, arrival_without_task, comes_if, has_no_tasks, is_owned, main_returned, may_end, next_task, starts_if, workers_over}
use Rattle.omp_model.proofs.Arrivals.{ComesToDispatch, ComesToThreadEnd, IsFree, IsInTask, IsQuiet}
use Rattle.omp_model.specs.Turn.{goes_on}
use Rattle.omp_model.specs.Words.{is_made_thread}
use Rattle.omp_model.specs.MadeWorld.{IsThread}

-- the initial task begins on thread 0
pub record AtInitial (W : World) (t : ℕ) : Type 0 where
  pub quiet : IsQuiet W t
  pub none : current W t ≡ 0
  pub thread : t ≡ 0
  pub condition : (pooled_at W INITIAL_TASK).condition ≡ condition.Made

-- a task ends
pub record AtEnd (W : World) (t k : ℕ) : Type 0 where
  pub task : k ≡ current W t
  pub some : 1 ≤ k

-- nothing is left of the code of the thread's task
pub record IsOver (W : World) (t : ℕ) : Type 0 where
  pub within : IsInTask W t
  pub next : upcoming_of (view_of W t) (code_of W t) ≡ upcoming.End

-- the end of a wait comes next in it
pub record IsWaiting (W : World) (t : ℕ) : Type 0 where
  pub within : IsInTask W t
  pub which : SyncKind
  pub next : upcoming_of (view_of W t) (code_of W t) ≡ upcoming.Sync which stage.WaitEnd

pub record AtInitialEnd (W : World) (t : ℕ) : Type 0 where
  pub over : IsOver W t
  pub kind : (pooled_at W (current W t)).kind ≡ kind.Initial
  pub tasks : has_no_tasks W (current_region W t) ≡ true
  pub workers : workers_over W ≡ true

pub record AtMemberEnd (W : World) (t r k : ℕ) : Type 0 where
  pub over : IsOver W t
  pub end : AtEnd W t k
  pub region : r ≡ region_of W k
  pub kind : (pooled_at W k).kind ≡ kind.Implicit

pub record AtTaskEnd (W : World) (t k : ℕ) : Type 0 where
  pub over : IsOver W t
  pub end : AtEnd W t k
  pub explicit : is_explicit_task W k ≡ true

-- a member begins, with the task that is made next
pub record AtMember (W : World) (t r k : ℕ) : Type 0 where
  pub stage : (thread_at W t).stage ≡ thread_stage.Begun
  pub region : r ≡ (thread_at W t).invited
  pub some : 1 ≤ r
  pub task : k ≡ length W.tasks

-- an undeferred task begins, or one that is ready, behind main or in a wait
pub data Begins (W : World) (t k : ℕ) : Type 0 where
  Undeferred : (thread_at W t).invited ≡ 0 → k ≡ (thread_at W t).undeferred → 1 ≤ k → Begins W t k
  Ready : (IsOver W t ⊎ IsWaiting W t) → next_task W t ≡ Some k → Begins W t k

pub record AtSwitch (W : World) (t prior k : ℕ) : Type 0 where
  pub stage : (thread_at W t).stage ≡ thread_stage.Begun
  pub before : prior ≡ current W t
  pub task : Begins W t k

-- an event of the code, from which nothing keeps the thread
pub record IsAtCode (W : World) (t : ℕ) : Type 0 where
  pub within : IsInTask W t
  pub gate : arrival_in W t (current W t) (upcoming_of (view_of W t) (code_of W t)) ≡ CodeEvent

-- what is so of an event beside all code, to which a thread has come
abbrev pub Reached : World → ℕ → Event → Type 0
Reached W t event.ThreadBegin = (thread_at W t).stage ≡ thread_stage.Made
Reached W t event.ThreadEnd = ComesToThreadEnd W t
Reached W t event.InitialTaskBegin = AtInitial W t
Reached W t event.InitialTaskEnd = AtInitialEnd W t
Reached W t (event.MemberBegin r k) = AtMember W t r k
Reached W t (event.MemberEnd r k) = AtMemberEnd W t r k
Reached W t (event.TaskBegin prior task) = AtSwitch W t prior task
Reached W t (event.TaskEnd task) = AtTaskEnd W t task
Reached W t (event.Dispatch share) = ComesToDispatch W t share
Reached W t other = ⊥

abbrev pub Arrives : World → ℕ → Arrival → Type 0
Arrives W t Waits = Unit {0}
Arrives W t Steps = IsInTask W t
Arrives W t CodeEvent = IsAtCode W t
Arrives W t (RuntimeEvent event) = Reached W t event

-- a thread that goes on was made
stage-goes : (W : World) (t : ℕ) (now : ThreadStage) → goes_on (arrival_at W t now) ≡ true → is_made_thread now ≡ true
stage-goes W t thread_stage.Unmade goes = absurd (true≢false (sym goes))
stage-goes W t thread_stage.Made goes = refl
stage-goes W t thread_stage.Begun goes = refl
stage-goes W t thread_stage.Ended goes = refl

pub thread-goes : (W : World) (t : ℕ) → goes_on (arrival W t) ≡ true → IsThread W t
unfolding arrival
thread-goes W t goes = stage-goes W t (thread_at W t).stage goes

-- a number is 0 or not
by-zero : (P : Bool → Type 0) (n : ℕ) → (n ≡ 0 → P true) → (1 ≤ n → P false) → P (n == 0)
by-zero P zero none some = none refl
by-zero P (suc n) none some = subst P (sym (ne_eqb (suc n) 0 (λ is. omega arith))) (some (omega arith))

-- where a ready task begins the thread is in a task
pub ready-within : (W : World) (t : ℕ) → (IsOver W t ⊎ IsWaiting W t) → IsInTask W t
ready-within W t (inl over) = over.within
ready-within W t (inr waiting) = waiting.within

module _ (W : World) (t : ℕ) where
  either : (b : Bool) (one other : Arrival) → (b ≡ true → Arrives W t one) → (b ≡ false → Arrives W t other) → Arrives W t (if b then one else other)
  either true one other first second = first refl
  either false one other first second = second refl

  module _ (within : IsInTask W t) where
    starting : (IsOver W t ⊎ IsWaiting W t) → (next : Option ℕ) → next_task W t ≡ next → Arrives W t (starts_if W t next)
    starting may None is = tt
    starting may (Some k) is = record { stage = within.quiet.free.stage; before = refl; task = Ready may is }

    at-end : upcoming_of (view_of W t) (code_of W t) ≡ upcoming.End → (which : TaskKind) → (pooled_at W (current W t)).kind ≡ which →
        Arrives W t (arrival_at_end W t (current W t) which)
    at-end next kind.Initial is =
        let over : IsOver W t = record { within = within; next = next } in
        either (has_no_tasks W (current_region W t)) (if workers_over W then RuntimeEvent event.InitialTaskEnd else Waits) (starts_if W t (next_task W t))
        (λ tasks. either (workers_over W) (RuntimeEvent event.InitialTaskEnd) Waits
        (λ workers. record { over = over; kind = is; tasks = tasks; workers = workers }) (λ others. tt))
        (λ others. starting (inl over) (next_task W t) refl)
    at-end next kind.Implicit is =
        record { over = record { within = within; next = next }; end = record { task = refl; some = within.some }; region = refl; kind = is }
    at-end next kind.Explicit is =
        record { over = record { within = within; next = next }; end = record { task = refl; some = within.some }; explicit = ap is_explicit is }
    at-end next kind.Undeferred is =
        record { over = record { within = within; next = next }; end = record { task = refl; some = within.some }; explicit = ap is_explicit is }

    gated : (next : Upcoming) → upcoming_of (view_of W t) (code_of W t) ≡ next → arrival_in W t (current W t) next ≡ CodeEvent → IsAtCode W t
    gated next is comes = record { within = within; gate = ap (arrival_in W t (current W t)) is ∙ comes }

    at-sync : (which : SyncKind) (at : SyncStage) → upcoming_of (view_of W t) (code_of W t) ≡ upcoming.Sync which at → Arrives W t (arrival_at_sync W t which at)
    at-sync which stage.RegionBegin is = gated (upcoming.Sync which stage.RegionBegin) is refl
    at-sync which stage.WaitBegin is = gated (upcoming.Sync which stage.WaitBegin) is refl
    at-sync which stage.WaitEnd is =
        either (may_end W t which) CodeEvent (starts_if W t (next_task W t))
        (λ may. gated (upcoming.Sync which stage.WaitEnd) is (ap (λ (b : Bool). if b then CodeEvent else starts_if W t (next_task W t)) may))
        (λ others. starting (inr (record { within = within; which = which; next = is })) (next_task W t) refl)
    at-sync which stage.RegionEnd is = gated (upcoming.Sync which stage.RegionEnd) is refl

    in-task : (next : Upcoming) → upcoming_of (view_of W t) (code_of W t) ≡ next → Arrives W t (arrival_in W t (current W t) next)
    in-task upcoming.Step is = within
    in-task upcoming.Event is = gated upcoming.Event is refl
    in-task upcoming.End is = at-end is (pooled_at W (current W t)).kind refl
    in-task upcoming.RegionEnd is =
        either (all_left W (task_at W (current W t)).forked) CodeEvent Waits (λ left. gated upcoming.RegionEnd is (ap comes_if left)) (λ others. tt)
    in-task (upcoming.Sync which at) is = at-sync which at is
    in-task (upcoming.Acquire id) is = either (not (is_owned W id)) CodeEvent Waits (λ free. gated (upcoming.Acquire id) is (ap comes_if free)) (λ others. tt)
    in-task (upcoming.Test id) is =
        either (is_owned W id) Steps CodeEvent (λ others. within) (λ free. gated (upcoming.Test id) is (ap (λ (b : Bool). if b then Steps else CodeEvent) free))

  -- a thread without a task
  around : IsQuiet W t → current W t ≡ 0 → t ≡ 0 → (now : Condition) → (pooled_at W INITIAL_TASK).condition ≡ now → Arrives W t (arrival_around now)
  around quiet none zeroth condition.Made is = record { quiet = quiet; none = none; thread = zeroth; condition = is }
  around quiet none zeroth condition.Ready is = tt
  around quiet none zeroth condition.Started is = tt
  around quiet none zeroth condition.Finished is = record { quiet = quiet; none = none; first = λ same. is; worker = λ other. absurd (other zeroth) }

  without-task : IsQuiet W t → current W t ≡ 0 → (b : Bool) → (t == 0) ≡ b →
      Arrives W t (if b then arrival_around (pooled_at W INITIAL_TASK).condition else arrival_of_worker W)
  without-task quiet none true is = around quiet none (eqb-true t 0 is) (pooled_at W INITIAL_TASK).condition refl
  without-task quiet none false is =
      either (main_returned W && has_no_tasks W IMPLICIT_REGION) (RuntimeEvent event.ThreadEnd) Waits
      (λ over. let parts = and_parts (main_returned W) (has_no_tasks W IMPLICIT_REGION) over in
      record {
        quiet = quiet;
        none = none;
        first = λ zeroth. absurd (true≢false (sym (ap (λ (u : ℕ). u == 0) zeroth) ∙ is));
        worker = λ other. record { returned = parts.0; tasks = parts.1 };
      })
      (λ others. tt)

  of-task : IsQuiet W t → Arrives W t (arrival_of_task W t (current W t))
  of-task quiet =
      let inside = arrival_in W t (current W t) (upcoming_of (view_of W t) (code_of W t)) in
      by-zero (λ b. Arrives W t (if b then arrival_without_task W t else inside)) (current W t) (λ none. without-task quiet none (t == 0) refl)
      (λ some. in-task (record { quiet = quiet; some = some }) (upcoming_of (view_of W t) (code_of W t)) refl)

  with-share : IsFree W t → (share : Option Share) → (thread_at W t).taken ≡ share → Arrives W t (arrival_with_share W t share)
  with-share free (Some share) is = record { free = free; taken = is }
  with-share free None is = of-task (record { free = free; taken = is })

  with-undeferred : (thread_at W t).stage ≡ thread_stage.Begun → (thread_at W t).invited ≡ 0 →
      Arrives W t (arrival_with_undeferred W t (thread_at W t).undeferred)
  with-undeferred begun uninvited =
      let task = (thread_at W t).undeferred in
      by-zero (λ b. Arrives W t (if b then arrival_with_share W t (thread_at W t).taken else RuntimeEvent (event.TaskBegin (current W t) task))) task
      (λ none. with-share (record { stage = begun; invited = uninvited; undeferred = none }) (thread_at W t).taken refl)
      (λ some. record { stage = begun; before = refl; task = Undeferred uninvited refl some })

  invited-to : (thread_at W t).stage ≡ thread_stage.Begun → Arrives W t (arrival_invited W t (thread_at W t).invited)
  invited-to begun =
      let r = (thread_at W t).invited in
      by-zero (λ b. Arrives W t (if b then arrival_with_undeferred W t (thread_at W t).undeferred else RuntimeEvent (event.MemberBegin r (length W.tasks)))) r
      (with-undeferred begun) (λ some. record { stage = begun; region = refl; some = some; task = refl })

  at-stage : (now : ThreadStage) → (thread_at W t).stage ≡ now → Arrives W t (arrival_at W t now)
  at-stage thread_stage.Unmade is = tt
  at-stage thread_stage.Made is = is
  at-stage thread_stage.Begun is = invited-to is
  at-stage thread_stage.Ended is = tt

  pub arrives : Arrives W t (arrival W t)
  unfolding arrival
  arrives = at-stage (thread_at W t).stage refl
