-- A thread whose task has left out what it goes past without a step: what that changes, and what it doesn't.
use Rattle.std.proofs.Common.{◌≡◌, ℕ, zero, suc, ◌==◌, ◌&&◌, not, Bool, true, false, if◌then◌else◌, List, [], ◌∷◌, slice_index_or, slice_set, length, refl, sym, ap, ◌∙◌}
use Rattle.std.specs.Prelude.{Option, Some, None}
use Rattle.std.specs.List.{filter}
use Rattle.std.proofs.lemmas.Bool.{eqb-true}
use Rattle.std.proofs.lemmas.List.{get_or-set_other, length-set, set-get_or}
use Rattle.c_syntax.specs.language.Numbered.{TreeView}
use Rattle.c_model.specs.declared.point.SyncKind.{SyncKind}
use Rattle.c_model.specs.declared.point.SyncStage.{SyncStage}
use Rattle.c_model.specs.declared.point.SyncStage.TheVariants as stage
use Rattle.c_model.specs.declared.question.Answer.{Answer}
use Rattle.c_model.specs.declared.question.Answer.TheVariants as answer
use Rattle.c_model.specs.declared.upcoming.Upcoming.{Upcoming}
use Rattle.c_model.specs.declared.upcoming.Upcoming.TheVariants as upcoming
use Rattle.c_model.specs.declared.view.View.{View}
use Rattle.c_model.specs.AfterEvents.{after_answer}
use Rattle.c_model.specs.Step.{items_from_next, settled_moment, settled_task, silent}
use Rattle.c_model.specs.Task.{Item, Moment, Task as Code}
use Rattle.c_model.specs.Upcoming.{upcoming_among, upcoming_of}
use Rattle.c_model.proofs.Settled.{next_once, settled_answer, settled_silent}
use Rattle.task_pool.specs.Allowed.{newest_allowed}
use Rattle.task_pool.specs.declared.task.TaskKind.{TaskKind}
use Rattle.task_pool.specs.declared.task.TaskKind.TheVariants as kind
use Rattle.omp_model.specs.declared.event.Arrival.{Arrival}
use Rattle.omp_model.specs.declared.event.Arrival.TheVariants.{CodeEvent, RuntimeEvent, Steps, Waits}
use Rattle.omp_model.specs.declared.event.Event.TheVariants.{InitialTaskEnd, MemberBegin, TaskBegin, ThreadEnd}
use Rattle.omp_model.specs.declared.event.Share.{Share}
use Rattle.omp_model.specs.declared.limits.TheConstants.{IMPLICIT_REGION, INITIAL_TASK}
use Rattle.omp_model.specs.declared.parts.ThreadStage.{ThreadStage}
use Rattle.omp_model.specs.declared.parts.ThreadStage.TheVariants as thread_stage
use Rattle.omp_model.specs.State.{Task, World, no_task, pooled_at, task_at, thread_at, with_task}
use Rattle.omp_model.specs.Members.{code_of, current, current_region, moment_of, view_of}
use Rattle.omp_model.specs.Gates.{all_left, arrival, arrival_around, arrival_at, arrival_at_end, arrival_at_sync, arrival_in, arrival_invited, arrival_of_task, arrival_of_worker, arrival_with_share, arrival_with_undeferred, arrival_without_task, comes_if, has_no_tasks, held_tasks, is_empty, is_in_barrier, main_returned, may_end, next_task, starts_if, waits_until, workers_over}
use Rattle.omp_model.specs.Changes.{with_masked_skipped, gone_to, with_code}
use Rattle.omp_model.specs.EventEffects.{told}
use Rattle.omp_model.proofs.Later.{at-set}

-- leaving out twice is leaving out once
pub settled-once : (view : View) (code : Code) → settled_task view (settled_task view code) ≡ settled_task view code
settled-once view code = ap (λ (items : List Item). record code { todo = items }) (next_once view code.todo)

-- a task of a list, with its code settled; where there is none, nothing is left out of its code
task-settled : (view : View) (tasks : List Task) (k : ℕ) → let task = slice_index_or tasks k no_task in let settled = record task { code = settled_task view task.code } in
    slice_index_or (slice_set tasks k settled) k no_task ≡ settled
unfolding items_from_next
task-settled view [] k = refl
task-settled view (task ∷ tasks) zero = refl
task-settled view (task ∷ tasks) (suc k) = task-settled view tasks k

-- what is written last stays
pub last-written : (tasks : List Task) (k : ℕ) (first last : Task) → slice_set (slice_set tasks k first) k last ≡ slice_set tasks k last
last-written [] k first last = refl
last-written (task ∷ tasks) zero first last = refl
last-written (task ∷ tasks) (suc k) first last = ap (λ (others : List Task). task ∷ others) (last-written tasks k first last)

module _ (W : World) (t : ℕ) where
  abbrev past : World
  past = with_masked_skipped W t

  -- the task, and its code
  pub task-past : task_at past (current W t) ≡ record (task_at W (current W t)) { code = settled_task (view_of W t) (code_of W t) }
  task-past = task-settled (view_of W t) W.tasks (current W t)

  pub other-past : (k : ℕ) → (k ≡ current W t → ⊥) → task_at past k ≡ task_at W k
  other-past k other = get_or-set_other W.tasks (current W t) k _ no_task other

  pub code-past : code_of past t ≡ settled_task (view_of W t) (code_of W t)
  code-past = ap (λ (task : Task). task.code) task-past

  pub moment-past : moment_of past t ≡ settled_moment (view_of W t) (moment_of W t)
  moment-past = ap (λ (code : Code). record (moment_of W t) { task = code }) code-past

  -- all else of each task, and of the world
  pub forked-past : (k : ℕ) → (task_at past k).forked ≡ (task_at W k).forked
  forked-past k = at-set (λ (task : Task). task.forked ≡ (task_at W k).forked) no_task W.tasks (current W t) k _ refl (λ is. ap (λ j. (task_at W j).forked) (sym is))

  pub tasks-past : length past.tasks ≡ length W.tasks
  tasks-past = length-set W.tasks (current W t) _

  pub current-past : current past t ≡ current W t
  current-past = refl

  pub view-past : view_of past t ≡ view_of W t
  view-past = refl

  -- going past twice is going past once
  pub past-once : with_masked_skipped past t ≡ past
  past-once =
      let settled : settled_task (view_of W t) (code_of past t) ≡ code_of past t = ap (settled_task (view_of W t)) code-past ∙ (settled-once (view_of W t) (code_of W t) ∙ sym code-past) in
      ap (λ (code : Code). with_code past (current W t) code) settled
      ∙ ap (λ (tasks : List Task). record past { tasks = tasks }) (set-get_or past.tasks (current W t) no_task)

  -- other code for the task is the same as without
  pub with_code-past : (code : Code) → with_code past (current W t) code ≡ with_code W (current W t) code
  with_code-past code =
      ap (λ (task : Task). with_task past (current W t) (record task { code = code })) task-past
      ∙ ap (λ (tasks : List Task). record W { tasks = tasks }) (last-written W.tasks (current W t) _ (record (task_at W (current W t)) { code = code }))

  pub gone_to-past : (now : Moment) → gone_to past (current W t) now ≡ gone_to W (current W t) now
  gone_to-past now = ap (λ (V : World). record V { store = now.store }) (with_code-past now.task)

  -- what the code comes to
  pub silent-past : (program : TreeView) → silent program (view_of W t) (moment_of past t) ≡ silent program (view_of W t) (moment_of W t)
  silent-past program = ap (silent program (view_of W t)) moment-past ∙ settled_silent program (view_of W t) (moment_of W t)

  pub answered-past : (given : Answer) → after_answer (view_of W t) given (moment_of past t) ≡ after_answer (view_of W t) given (moment_of W t)
  answered-past given = ap (after_answer (view_of W t) given) moment-past ∙ settled_answer (view_of W t) given (moment_of W t)

  pub told-past : told past t ≡ told W t
  told-past = answered-past (answer.Free true)

  pub upcoming-past : upcoming_of (view_of W t) (code_of past t) ≡ upcoming_of (view_of W t) (code_of W t)
  upcoming-past = ap (upcoming_of (view_of W t)) code-past ∙ ap upcoming_among (next_once (view_of W t) (code_of W t).todo)

-- What the thread comes to is the same, as far as the task that it would start while it waits is.
module _ (W : World) (t : ℕ) (seen : Arrival → Arrival) (starts : seen (starts_if W t (next_task (with_masked_skipped W t) t)) ≡ seen (starts_if W t (next_task W t))) where
  abbrev V : World
  V = with_masked_skipped W t

  same-if : (one other another : Arrival) (b : Bool) → seen other ≡ seen another → seen (if b then one else other) ≡ seen (if b then one else another)
  same-if one other another true same = refl
  same-if one other another false same = same

  same-at-end : (k : ℕ) (which : TaskKind) → seen (arrival_at_end V t k which) ≡ seen (arrival_at_end W t k which)
  same-at-end k kind.Initial = same-if (if workers_over W then RuntimeEvent InitialTaskEnd else Waits) (starts_if W t (next_task V t)) (starts_if W t (next_task W t)) (has_no_tasks W (current_region W t)) starts
  same-at-end k kind.Implicit = refl
  same-at-end k kind.Explicit = refl
  same-at-end k kind.Undeferred = refl

  same-at-sync : (which : SyncKind) (at : SyncStage) → seen (arrival_at_sync V t which at) ≡ seen (arrival_at_sync W t which at)
  same-at-sync which stage.WaitEnd = same-if CodeEvent (starts_if W t (next_task V t)) (starts_if W t (next_task W t)) (may_end W t which) starts
  same-at-sync which stage.RegionBegin = refl
  same-at-sync which stage.WaitBegin = refl
  same-at-sync which stage.RegionEnd = refl

  same-in-task : (k : ℕ) (next : Upcoming) → seen (arrival_in V t k next) ≡ seen (arrival_in W t k next)
  same-in-task k upcoming.Step = refl
  same-in-task k upcoming.Event = refl
  same-in-task k upcoming.End = same-at-end k (pooled_at W k).kind
  same-in-task k upcoming.RegionEnd = ap (λ r. seen (comes_if (all_left W r))) (forked-past W t k)
  same-in-task k (upcoming.Sync which at) = same-at-sync which at
  same-in-task k (upcoming.Acquire id) = refl
  same-in-task k (upcoming.Test id) = refl

  -- without a task the code of the initial task is as it was
  main-returned : current W t ≡ 0 → main_returned V ≡ main_returned W
  main-returned none = ap (λ (task : Task). is_empty task.code.todo) (other-past W t INITIAL_TASK (λ is. let first : INITIAL_TASK ≡ 0 = is ∙ none in cc))

  same-without : current W t ≡ 0 → seen (arrival_without_task V t) ≡ seen (arrival_without_task W t)
  same-without none =
      ap (λ (returned : Bool). seen (if t == 0 then arrival_around (pooled_at W INITIAL_TASK).condition else (if returned && has_no_tasks W IMPLICIT_REGION then RuntimeEvent ThreadEnd else Waits))) (main-returned none)

  same-of-task : (b : Bool) → (current W t == 0) ≡ b →
      seen (if b then arrival_without_task V t else arrival_in V t (current W t) (upcoming_of (view_of W t) (code_of V t))) ≡
      seen (if b then arrival_without_task W t else arrival_in W t (current W t) (upcoming_of (view_of W t) (code_of W t)))
  same-of-task true none = same-without (eqb-true (current W t) 0 none)
  same-of-task false some = ap (λ (next : Upcoming). seen (arrival_in V t (current W t) next)) (upcoming-past W t) ∙ same-in-task (current W t) (upcoming_of (view_of W t) (code_of W t))

  same-with-share : (share : Option Share) → seen (arrival_with_share V t share) ≡ seen (arrival_with_share W t share)
  same-with-share (Some share) = refl
  same-with-share None = same-of-task (current W t == 0) refl

  same-with-undeferred : (task : ℕ) (none : Bool) →
      seen (if none then arrival_with_share V t (thread_at W t).taken else RuntimeEvent (TaskBegin (current W t) task)) ≡
      seen (if none then arrival_with_share W t (thread_at W t).taken else RuntimeEvent (TaskBegin (current W t) task))
  same-with-undeferred task true = same-with-share (thread_at W t).taken
  same-with-undeferred task false = refl

  same-invited : (r : ℕ) (none : Bool) →
      seen (if none then arrival_with_undeferred V t (thread_at W t).undeferred else RuntimeEvent (MemberBegin r (length V.tasks))) ≡
      seen (if none then arrival_with_undeferred W t (thread_at W t).undeferred else RuntimeEvent (MemberBegin r (length W.tasks)))
  same-invited r true = same-with-undeferred (thread_at W t).undeferred ((thread_at W t).undeferred == 0)
  same-invited r false = ap (λ k. seen (RuntimeEvent (MemberBegin r k))) (tasks-past W t)

  same-at-stage : (now : ThreadStage) → seen (arrival_at V t now) ≡ seen (arrival_at W t now)
  same-at-stage thread_stage.Unmade = refl
  same-at-stage thread_stage.Made = refl
  same-at-stage thread_stage.Begun = same-invited (thread_at W t).invited ((thread_at W t).invited == 0)
  same-at-stage thread_stage.Ended = refl

  pub seen-past : seen (arrival V t) ≡ seen (arrival W t)
  unfolding arrival
  seen-past = same-at-stage (thread_at W t).stage

-- an event of the code, a step, or another thing
abbrev of_code : Arrival → Arrival
of_code Waits = Waits
of_code Steps = Steps
of_code CodeEvent = CodeEvent
of_code (RuntimeEvent event) = Waits

starts-no-code : (W : World) (t : ℕ) (next : Option ℕ) → of_code (starts_if W t next) ≡ Waits
starts-no-code W t None = refl
starts-no-code W t (Some task) = refl

of-code-past : (W : World) (t : ℕ) → of_code (arrival (with_masked_skipped W t) t) ≡ of_code (arrival W t)
of-code-past W t = seen-past W t of_code (starts-no-code W t (next_task (with_masked_skipped W t) t) ∙ sym (starts-no-code W t (next_task W t)))

is-comes : (next : Arrival) → of_code next ≡ CodeEvent → next ≡ CodeEvent
is-comes Waits is = cc
is-comes Steps is = cc
is-comes CodeEvent is = refl
is-comes (RuntimeEvent event) is = cc

is-steps : (next : Arrival) → of_code next ≡ Steps → next ≡ Steps
is-steps Waits is = cc
is-steps Steps is = refl
is-steps CodeEvent is = cc
is-steps (RuntimeEvent event) is = cc

-- a thread that comes to an event of its code, or to a step, comes to one when its task has left out what it goes past
pub comes-past : (W : World) (t : ℕ) → arrival W t ≡ CodeEvent → arrival (with_masked_skipped W t) t ≡ CodeEvent
comes-past W t is = is-comes (arrival (with_masked_skipped W t) t) (of-code-past W t ∙ ap of_code is)

pub steps-past : (W : World) (t : ℕ) → arrival W t ≡ Steps → arrival (with_masked_skipped W t) t ≡ Steps
steps-past W t is = is-steps (arrival (with_masked_skipped W t) t) (of-code-past W t ∙ ap of_code is)

-- .. and the same as before where that doesn't tell whether the task is in a barrier
module _ (W : World) (t : ℕ) (same : is_in_barrier (settled_task (view_of W t) (code_of W t)).todo ≡ is_in_barrier (code_of W t).todo) where
  barrier-past : (k : ℕ) → is_in_barrier (task_at (with_masked_skipped W t) k).code.todo ≡ is_in_barrier (task_at W k).code.todo
  barrier-past k =
      at-set (λ (task : Task). is_in_barrier task.code.todo ≡ is_in_barrier (task_at W k).code.todo) no_task W.tasks (current W t) k _ refl (λ is. same ∙ ap (λ j. is_in_barrier (task_at W j).code.todo) (sym is))

  pub held-past : held_tasks (with_masked_skipped W t) t ≡ held_tasks W t
  held-past = λ i. filter (λ (k : ℕ). not (barrier-past k i)) (thread_at W t).stack

  pub arrival-past : arrival (with_masked_skipped W t) t ≡ arrival W t
  arrival-past = seen-past W t (λ next. next) (ap (λ (held : List ℕ). starts_if W t (newest_allowed W.pool.tasks W.pool.ready (current_region W t) held)) held-past)
