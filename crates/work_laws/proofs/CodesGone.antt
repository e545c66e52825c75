-- The code of a task after the Go of an event: what it was, nothing where the task has ended, or the code behind the event where it is the current task's.
use Rattle.std.proofs.Common.{ℕ, ◌≡◌, ◌<◌, ◌≤◌, ◌⊎◌, Bool, true, false, if◌then◌else◌, List, [], ◌∷◌, slice_index_or, slice_set, length, refl, ap, ◌∙◌, subst, inl, inr, arith}
use Rattle.std.proofs.lemmas.Bool.{cases_eq}
use Rattle.std.proofs.lemmas.List.{get_or-set_other, get_or-set_same, get_or_append_left, length-append, length-set}
use Rattle.c_syntax.specs.language.Tree.{Tree}
use Rattle.c_model.specs.declared.point.Point.{Point}
use Rattle.c_model.specs.declared.point.Point.TheVariants as point
use Rattle.c_model.specs.declared.point.SyncKind.{SyncKind}
use Rattle.c_model.specs.declared.point.SyncStage.{SyncStage}
use Rattle.c_model.specs.declared.point.SyncStage.TheVariants as stage
use Rattle.c_model.specs.declared.point.WorkKind.{WorkKind}
use Rattle.c_model.specs.Begin.{blank_task, explicit_task}
use Rattle.c_model.specs.AfterEvents.{after_event}
use Rattle.c_model.specs.Step.{silent}
use Rattle.c_model.specs.Task.{Outcome, Task as Code}
use Rattle.c_model.specs.Task.Outcome.{Asks, Ends, Limits, Occurs, StepsTo, Traps}
use Rattle.task_pool.specs.declared.task.TaskKind.TheVariants as kind
use Rattle.task_pool.specs.Tasks.{is_finished}
use Rattle.task_pool.specs.View.{with_finished, with_started}
use Rattle.team_parts.specs.declared.meeting.Meeting.{Meeting}
use Rattle.omp_model.specs.declared.limits.TheConstants.{INITIAL_TASK}
use Rattle.omp_model.specs.declared.event.Arrival.TheVariants.{RuntimeEvent}
use Rattle.omp_model.specs.declared.event.Endpoint.{Endpoint}
use Rattle.omp_model.specs.declared.event.Event.{Event}
use Rattle.omp_model.specs.declared.event.Event.TheVariants as event
use Rattle.omp_model.specs.State.{Run, Task, Thread, World, is_under_way, no_task, pooled_at, region_at, task_at, task_with, unmade}
use Rattle.omp_model.specs.Members.{current, current_index, current_region, is_member, view_of}
use Rattle.omp_model.specs.Gates.{arrival, is_barrier}
use Rattle.omp_model.specs.Changes.{with_finished_task, with_member_meeting, with_barrier_passed, without_current_task, with_started_task, taken_up, task_made}
use Rattle.omp_model.specs.EventEffects.{Happens, after_meeting_at, after_sync, barrier_met, effect_of, effect_of_point, event_of_point, executes_point, fault_of, fault_of_point, going_by, go_of_code, member_code, past_point, told, work_met}
use Rattle.omp_model.proofs.Arriving.{Arrives, arrives}
use Rattle.omp_model.proofs.Gos.{unless-goes}
use Rattle.omp_model.proofs.Later.{at-set}
use Rattle.omp_model.proofs.Reading.{read-same}
use Rattle.omp_model.proofs.Turning.{Beside, GoOf, OfCode}

-- the code behind an event of the code
pub record IsPast (run : Run) (W after : World) (t : ℕ) (e : Event) (k : ℕ) : Type 0 where
  pub here : k ≡ current W t
  pub what : Point
  pub tree : Tree
  pub occurs : silent run.program (view_of W t) (told W t) ≡ Occurs what tree
  pub event : event_of_point W t what ≡ e
  pub code : (task_at after k).code ≡ after_event (view_of W t) what (executes_point W t what) (told W t).task

-- an event of the code, with its point
pub record Occurred (run : Run) (W : World) (t : ℕ) (e : Event) : Type 0 where
  pub what : Point
  pub tree : Tree
  pub occurs : silent run.program (view_of W t) (told W t) ≡ Occurs what tree
  pub event : event_of_point W t what ≡ e

-- the code as it was, or none
abbrev pub IsLeft : World → World → ℕ → Type 0
IsLeft W after k = ((task_at after k).code ≡ (task_at W k).code) ⊎ ((task_at after k).code ≡ blank_task)

-- ---- events of the code

-- the tasks that there were have the codes that they had
record SameCodes (W between : World) : Type 0 where
  threads : between.threads ≡ W.threads
  count : length W.tasks ≤ length between.tasks
  code : (k : ℕ) → k < length W.tasks → (task_at between k).code ≡ (task_at W k).code

same-tasks : (W between : World) → between.threads ≡ W.threads → between.tasks ≡ W.tasks → SameCodes W between
same-tasks W between threads is =
    record {
      threads = threads;
      count = omega (arith, ap (λ (tasks : List Task). length tasks) is);
      code = λ k below. ap (λ (tasks : List Task). (slice_index_or tasks k no_task).code) is;
    }

same-either : (W one other : World) (b : Bool) → SameCodes W one → SameCodes W other → SameCodes W (if b then one else other)
same-either W one other true first second = first
same-either W one other false first second = second

same-met : (W : World) (t : ℕ) (what : Meeting) → SameCodes W (after_meeting_at W t what)
same-met W t what =
    same-either W (with_member_meeting W (current_region W t) (current_index W t) what) W (is_member W t) (same-tasks W _ refl refl) (same-tasks W W refl refl)

same-synced : (W : World) (t codeptr : ℕ) (which : SyncKind) (at : SyncStage) → SameCodes W (after_sync W t codeptr which at)
same-synced W t codeptr which stage.RegionBegin =
    let what = barrier_met codeptr which in
    same-either W (after_meeting_at W t what) W (is_barrier which) (same-met W t what) (same-tasks W W refl refl)
same-synced W t codeptr which stage.WaitEnd =
    same-either W (with_barrier_passed W (current_region W t) (current_index W t)) W (is_barrier which) (same-tasks W _ refl refl) (same-tasks W W refl refl)
same-synced W t codeptr which other = same-tasks W W refl refl

module _ (run : Run) (W : World) (t : ℕ) where
  between-codes : (what : Point) → SameCodes W (effect_of_point run W t (told W t) what)
  unfolding effect_of_point
  between-codes (point.ParallelBegin codeptr requested) =
      let forked : Task = record (task_at W (current W t)) { forked = length W.regions } in
      record {
        threads = refl;
        count = omega (arith, length-set W.tasks (current W t) forked);
        code = λ k below. read-same (λ (x : Task). x.code) no_task W.tasks (current W t) k forked refl;
      }
  between-codes (point.TaskCreate codeptr undeferred) =
      let new = task_with (explicit_task run.program (view_of W t) (told W t)).task in
      record {
        threads = refl;
        count = omega (arith, length-append W.tasks (new ∷ []));
        code = λ k below. ap (λ (x : Task). x.code) (get_or_append_left W.tasks (new ∷ []) no_task k below);
      }
  between-codes (point.ParallelEnd codeptr) = same-tasks W _ refl refl
  between-codes (point.WorkBegin codeptr what) = same-met W t (work_met codeptr what)
  between-codes (point.Sync codeptr which at) = same-synced W t codeptr which at
  between-codes (point.MutexAcquired codeptr id which) = same-tasks W _ refl refl
  between-codes (point.MutexReleased codeptr id which) = same-tasks W _ refl refl
  between-codes (point.LockInit codeptr id) = same-tasks W _ refl refl
  between-codes (point.LockDestroy codeptr id) = same-tasks W _ refl refl
  between-codes what = same-tasks W W refl refl

  gone-point : (what : Point) (tree : Tree) → silent run.program (view_of W t) (told W t) ≡ Occurs what tree → (k : ℕ) → k < length W.tasks →
      let after = past_point W (effect_of_point run W t (told W t) what) t (told W t) what in
      IsLeft W after k ⊎ IsPast run W after t (event_of_point W t what) k
  gone-point what tree occurs k below =
      let between = effect_of_point run W t (told W t) what in
      let same = between-codes what in
      let code = after_event (view_of W t) what (executes_point W t what) (told W t).task in
      let j = current between t in
      let now : Task = record (task_at between j) { code = code } in
      let same-task : j ≡ current W t =
      ap (λ (threads : List Thread). slice_index_or (slice_index_or threads t unmade).stack 0 0) same.threads in
      elim (cases_eq k j) [
        | inl is ↦ inr (record {
          here = is ∙ same-task;
          what = what;
          tree = tree;
          occurs = occurs;
          event = refl;
          code = ap (λ (i : ℕ). (slice_index_or (slice_set between.tasks j now) i no_task).code) is
              ∙ ap (λ (x : Task). x.code) (get_or-set_same between.tasks j now no_task (omega (arith, is, below, same.count)));
        })
        | inr other ↦ inl (inl (ap (λ (x : Task). x.code) (get_or-set_other between.tasks j k now no_task other) ∙ same.code k below))
      ]

  occurred-by : (after : World) (e : Event) (outcome : Outcome) → silent run.program (view_of W t) (told W t) ≡ outcome →
      going_by run W t (told W t) outcome ≡ Happens e after → Occurred run W t e
  occurred-by after e (Occurs what tree) occurs happens =
      unless-goes (λ which next. Occurred run W t which) (fault_of_point W t (told W t).task what) (event_of_point W t what) e
      (past_point W (effect_of_point run W t (told W t) what) t (told W t) what) after
      (λ fine. record { what = what; tree = tree; occurs = occurs; event = refl }) happens
  occurred-by after e (StepsTo next) occurs happens = cc
  occurred-by after e (Asks ask tree) occurs happens = cc
  occurred-by after e (Ends number) occurs happens = cc
  occurred-by after e (Traps trap) occurs happens = cc
  occurred-by after e (Limits limit) occurs happens = cc

  occurred-in-code : (after : World) (e : Event) → go_of_code run W t ≡ Happens e after → Occurred run W t e
  unfolding go_of_code
  occurred-in-code after e happens = occurred-by after e (silent run.program (view_of W t) (told W t)) refl happens

  gone-by : (after : World) (e : Event) (outcome : Outcome) → silent run.program (view_of W t) (told W t) ≡ outcome →
      going_by run W t (told W t) outcome ≡ Happens e after → (k : ℕ) → k < length W.tasks → IsLeft W after k ⊎ IsPast run W after t e k
  gone-by after e (Occurs what tree) occurs happens k below =
      unless-goes (λ which next. IsLeft W next k ⊎ IsPast run W next t which k) (fault_of_point W t (told W t).task what) (event_of_point W t what) e
      (past_point W (effect_of_point run W t (told W t) what) t (told W t) what) after (λ fine. gone-point what tree occurs k below) happens
  gone-by after e (StepsTo next) occurs happens k below = cc
  gone-by after e (Asks ask tree) occurs happens k below = cc
  gone-by after e (Ends number) occurs happens k below = cc
  gone-by after e (Traps trap) occurs happens k below = cc
  gone-by after e (Limits limit) occurs happens k below = cc

  gone-in-code : (after : World) (e : Event) → go_of_code run W t ≡ Happens e after → (k : ℕ) → k < length W.tasks →
      IsLeft W after k ⊎ IsPast run W after t e k
  unfolding go_of_code
  gone-in-code after e happens k below = gone-by after e (silent run.program (view_of W t) (told W t)) refl happens k below

-- ---- events beside all code

-- a task starts or finishes, and all have the same code
started-tasks : (b : Bool) (W other : World) → other.tasks ≡ W.tasks → (if b then W else other).tasks ≡ W.tasks
started-tasks true W other is = refl
started-tasks false W other is = is

finished-tasks : (b : Bool) (W other : World) → other.tasks ≡ W.tasks → (if b then other else W).tasks ≡ W.tasks
finished-tasks true W other is = is
finished-tasks false W other is = refl

start-tasks : (W : World) (k : ℕ) → (with_started_task W k).tasks ≡ W.tasks
start-tasks W k = started-tasks (is_finished (pooled_at W k).condition) W (record W { pool = with_started W.pool k }) refl

finish-tasks : (W : World) (k : ℕ) → (with_finished_task W k).tasks ≡ W.tasks
finish-tasks W k = finished-tasks (is_under_way (pooled_at W k).condition) W (record W { pool = with_finished W.pool k }) refl

abbrev code-in : List Task → ℕ → Code
code-in tasks k = (slice_index_or tasks k no_task).code

-- a task is taken up
taken-code : (W : World) (t j k : ℕ) → (task_at (taken_up W t j) k).code ≡ (task_at W k).code
taken-code W t j k = read-same (λ (x : Task). x.code) no_task W.tasks j k (record (task_at W j) { thread = t }) refl

-- nothing is kept of a code
emptied-code : (tasks : List Task) (j k : ℕ) (now : Task) → now.code ≡ blank_task →
    (code-in (slice_set tasks j now) k ≡ code-in tasks k) ⊎ (code-in (slice_set tasks j now) k ≡ blank_task)
emptied-code tasks j k now blank =
    at-set (λ (x : Task). (x.code ≡ code-in tasks k) ⊎ (x.code ≡ blank_task)) no_task tasks j k now (inl refl) (λ is. inr blank)

gone-beside : (W : World) (t : ℕ) (e : Event) (k : ℕ) → k < length W.tasks → IsLeft W (effect_of W t e) k
unfolding effect_of
gone-beside W t event.InitialTaskBegin k below =
    inl (ap (λ (tasks : List Task). code-in tasks k) (start-tasks (taken_up W t INITIAL_TASK) INITIAL_TASK) ∙ taken-code W t INITIAL_TASK k)
gone-beside W t event.InitialTaskEnd k below = inl (ap (λ (tasks : List Task). code-in tasks k) (finish-tasks (without_current_task W t) INITIAL_TASK))
gone-beside W t (event.MemberBegin r j) k below =
    let parent = (region_at W r).head.task in
    let code = member_code (task_at W parent).code in
    let fresh = task_made W parent r kind.Implicit code in
    inl (taken-code (with_started_task fresh j) t j k
    ∙ ap (λ (tasks : List Task). code-in tasks k) (start-tasks fresh j)
    ∙ ap (λ (x : Task). x.code) (get_or_append_left W.tasks (task_with code ∷ []) no_task k below))
gone-beside W t (event.MemberEnd r j) k below =
    let over = with_finished_task (without_current_task W t) j in
    subst (λ (tasks : List Task). (code-in (slice_set over.tasks j (record (task_at over j) { code = blank_task })) k ≡ code-in tasks k)
    ⊎ (code-in (slice_set over.tasks j (record (task_at over j) { code = blank_task })) k ≡ blank_task)) (finish-tasks (without_current_task W t) j)
    (emptied-code over.tasks j k (record (task_at over j) { code = blank_task }) refl)
gone-beside W t (event.TaskBegin prior j) k below =
    inl (ap (λ (tasks : List Task). code-in tasks k) (start-tasks (taken_up W t j) j) ∙ taken-code W t j k)
gone-beside W t (event.TaskEnd j) k below = emptied-code W.tasks j k (record (task_at W j) { code = blank_task }) refl
gone-beside W t other k below = inl refl

-- ---- all

pub codes-gone : (run : Run) (W after : World) (t : ℕ) (e : Event) → GoOf run W t e after → (k : ℕ) → k < length W.tasks →
    IsLeft W after k ⊎ IsPast run W after t e k
codes-gone run W after t e (OfCode comes happens) k below = gone-in-code run W t after e happens k below
codes-gone run W after t e (Beside meets happens) k below =
    inl (unless-goes (λ which next. IsLeft W next k) (fault_of W t e) e e (effect_of W t e) after (λ fine. gone-beside W t e k below) happens)

-- no work begins or ends beside all code
beside-work : (W : World) (t : ℕ) (at : Endpoint) (which : WorkKind) (count codeptr : ℕ) → arrival W t ≡ RuntimeEvent (event.Work at which count codeptr) → ⊥
beside-work W t at which count codeptr meets = subst (Arrives W t) meets (arrives W t)

pub work-occurred : (run : Run) (W after : World) (t : ℕ) (at : Endpoint) (which : WorkKind) (count codeptr : ℕ) →
    GoOf run W t (event.Work at which count codeptr) after → Occurred run W t (event.Work at which count codeptr)
work-occurred run W after t at which count codeptr (OfCode comes happens) = occurred-in-code run W t after (event.Work at which count codeptr) happens
work-occurred run W after t at which count codeptr (Beside meets happens) = absurd (beside-work W t at which count codeptr meets)
