-- The codes of tasks after the Go of an event of the code.
use Rattle.std.proofs.Common.{◌≡◌, ℕ, ◌<◌, ◌≤◌, ◌+◌, nat_abs, Bool, true, false, if◌then◌else◌, List, [], ◌∷◌, length, refl, sym, ap, ◌∙◌, inl, inr, arith, subst}
use Rattle.std.proofs.lemmas.Bool.{cases_eq, true≢false}
use Rattle.std.proofs.lemmas.List.{get_or_append_left, length-set, length_push}
use Rattle.c_syntax.specs.language.Tree.{Tree}
use Rattle.c_model.specs.declared.point.Point.{Point}
use Rattle.c_model.specs.declared.point.Point.TheVariants as point
use Rattle.c_model.specs.declared.point.SyncKind.{SyncKind}
use Rattle.c_model.specs.declared.point.SyncStage.{SyncStage}
use Rattle.c_model.specs.declared.point.SyncStage.TheVariants as stage
use Rattle.c_model.specs.declared.point.Work.TheVariants as work
use Rattle.c_model.specs.Begin.{explicit_task}
use Rattle.c_model.specs.AfterEvents.{after_event}
use Rattle.c_model.specs.Step.{silent}
use Rattle.c_model.specs.Task.{Task as Code}
use Rattle.c_model.specs.Task.Outcome.{Occurs}
use Rattle.c_brackets.specs.Opened.{open_task}
use Rattle.c_brackets.specs.Orderly.{IsOrderly as IsOrderlyCode}
use Rattle.c_brackets.specs.Returns.{HasReturnsOutside}
use Rattle.sync_objects.specs.View.{LocksView}
use Rattle.task_pool.specs.declared.task.Task.{Task as PoolTask}
use Rattle.task_pool.specs.declared.task.TaskKind.TheVariants as kind
use Rattle.task_pool.specs.View.{fresh_task}
use Rattle.team_parts.specs.declared.meeting.Meeting.{Meeting}
use Rattle.omp_model.specs.declared.event.Event.{Event}
use Rattle.omp_model.specs.declared.event.Event.TheVariants as event
use Rattle.omp_model.specs.State.{Region, Run, Task, World, no_task, pooled_at, task_at, task_with}
use Rattle.omp_model.specs.Members.{current, current_index, current_region, is_member, view_of}
use Rattle.omp_model.specs.Gates.{is_barrier}
use Rattle.omp_model.specs.Changes.{with_member_meeting, with_barrier_passed, with_code}
use Rattle.omp_model.specs.EventEffects.{after_creation, after_fork, after_meeting_at, after_sync, barrier_met, effect_of_point, event_of_point, executes_point, kind_of_task, past_point, told, work_met}
use Rattle.omp_model.specs.MadeWorld.{IsMadeWorld}
use Rattle.omp_model.proofs.Touching.{TouchesWorld, is_of_code}
use Rattle.omp_model.proofs.Gos.{current-kept}
use Rattle.omp_model.proofs.Conditions.{pooled-added}
use Rattle.omp_model.proofs.MadeWords.{added-last, at-push}
use Rattle.omp_model.proofs.Reading.{read-more, read-same}
use Rattle.nested_runs.proofs.Standing.{HasCourse, is_behind, stand_among}
use Rattle.nested_runs.proofs.Touching.{AreCodes, BeginsAhead, Touches}
use Rattle.nested_runs.proofs.Codes.{explicit-open, explicit-orderly}
use Rattle.nested_runs.proofs.GoCodes.{CodesAfter, SameCodes, SameTasks, code-past, codes-past, none-open, orderly-told, same-codes}
use Rattle.nested_runs.proofs.Stands.{stand-explicit}

-- it is one of the code
point-of-code : (W : World) (t : ℕ) (what : Point) → is_of_code (event_of_point W t what) ≡ true
point-of-code W t (point.WorkBegin codeptr (work.Loop start count step how)) = refl
point-of-code W t (point.WorkBegin codeptr (work.Sections count)) = refl
point-of-code W t (point.WorkBegin codeptr work.Single) = refl
point-of-code W t other = refl

-- and so no member's begin
begins-in-code : (W after : World) (e : Event) → is_of_code e ≡ true → BeginsAhead W after e
begins-in-code W after (event.MemberBegin r k) is = absurd (true≢false (sym is))
begins-in-code W after other is = tt

-- Where no task is made, all have the same code.

same-either : (W one other : World) (b : Bool) → SameTasks W one → SameTasks W other → SameTasks W (if b then one else other)
same-either W one other true first second = first
same-either W one other false first second = second

-- regions and locks alone are changed
same-changed : (W : World) (regions : List Region) (locks : LocksView) → SameTasks W (record W { regions = regions; locks = locks })
same-changed W regions locks = record { tasks = refl; code = λ k. refl; pool = refl }

same-met : (W : World) (t : ℕ) (what : Meeting) → SameTasks W (after_meeting_at W t what)
same-met W t what =
    same-either W (with_member_meeting W (current_region W t) (current_index W t) what) W (is_member W t) (same-changed W _ W.locks) (same-changed W W.regions W.locks)

same-synced : (W : World) (t codeptr : ℕ) (which : SyncKind) (at : SyncStage) → SameTasks W (after_sync W t codeptr which at)
same-synced W t codeptr which stage.RegionBegin =
    let what = barrier_met codeptr which in
    same-either W (after_meeting_at W t what) W (is_barrier which) (same-met W t what) (same-changed W W.regions W.locks)
same-synced W t codeptr which stage.WaitEnd =
    same-either W (with_barrier_passed W (current_region W t) (current_index W t)) W (is_barrier which) (same-changed W _ W.locks) (same-changed W W.regions W.locks)
same-synced W t codeptr which other = same-changed W W.regions W.locks

same-forked : (W : World) (t requested : ℕ) → SameTasks W (after_fork W t requested)
same-forked W t requested =
    let forked : Task = record (task_at W (current W t)) { forked = length W.regions } in
    record {
      tasks = length-set W.tasks (current W t) forked;
      code = λ j. read-same (λ (x : Task). x.code) no_task W.tasks (current W t) j forked refl;
      pool = refl;
    }

module _ (run : Run) (W : World) (t : ℕ) (tree : Tree) (returns : HasReturnsOutside run.program) (codes : AreCodes W) (made : IsMadeWorld W)
    (some : 1 ≤ current W t) (below : current W t < length W.tasks) where
  abbrev code-behind : Point → Code
  code-behind what = after_event (view_of W t) what (executes_point W t what) (told W t).task

  abbrev comes-to : Point → Type 0
  comes-to what = silent run.program (view_of W t) (told W t) ≡ Occurs what tree

  -- a task is created
  explicit-differs : (undeferred : Bool) → kind_of_task undeferred ≡ kind.Implicit → ⊥
  explicit-differs true is = cc
  explicit-differs false is = cc

  module _ (codeptr : ℕ) (undeferred : Bool) (occurs : comes-to (point.TaskCreate codeptr undeferred)) where
    abbrev created : World
    created = after_creation run W t (told W t) undeferred

    abbrev new-code : Code
    new-code = (explicit_task run.program (view_of W t) (told W t)).task

    abbrev new-pooled : PoolTask
    new-pooled = fresh_task (current W t) (current_region W t) (kind_of_task undeferred)

    created-other : (j : ℕ) → (j ≡ length W.tasks → ⊥) → pooled_at created j ≡ pooled_at W j
    created-other j other = pooled-added W.pool.tasks new-pooled j (λ is. other (is ∙ sym made.pooled))

    created-last : (j : ℕ) → j ≡ length W.tasks → pooled_at created j ≡ new-pooled
    created-last j is = added-last W.pool.tasks new-pooled j (is ∙ made.pooled)

    created-code : (j : ℕ) → j < length W.tasks → task_at created j ≡ task_at W j
    created-code j within = get_or_append_left W.tasks (task_with new-code ∷ []) no_task j within

    -- a member is one of those before
    created-course : (j : ℕ) → (pooled_at created j).kind ≡ kind.Implicit → j < length created.tasks → HasCourse (task_at created j).code
    created-course j is within = elim (cases_eq j (length W.tasks)) [
      | inl last ↦ absurd (explicit-differs undeferred (sym (ap (λ (x : PoolTask). x.kind) (created-last j last)) ∙ is))
      | inr other ↦
          let before : j < length W.tasks = at-before (length W.tasks) (length created.tasks) (length_push W.tasks (task_with new-code)) other within in
          rw (created-code j before) (codes.course j (sym (ap (λ (x : PoolTask). x.kind) (created-other j other)) ∙ is) before)
    ]
      where
        at-before : (n m : ℕ) → m ≡ n + 1 → (j ≡ n → ⊥) → j < m → j < n
        at-before n m grows other within = elim (cases_eq j n) [ inl same ↦ absurd (other same) | inr differs ↦ omega arith ]

    created-codes : SameCodes W created
    created-codes =
        record {
          tasks = omega (arith, length_push W.tasks (task_with new-code));
          opens = λ j. read-more (λ (x : Task). open_task x.code) no_task W.tasks j (task_with new-code)
              (explicit-open run.program (view_of W t) (told W t) ∙ sym none-open);
          stands = λ j. read-more (λ (x : Task). stand_among x.code.todo) no_task W.tasks j (task_with new-code)
              (stand-explicit run.program (view_of W t) (told W t));
          behind = λ j within. ap (λ (x : Task). is_behind x.code) (created-code j within);
          kinds = λ j within. ap (λ (x : PoolTask). x.kind) (created-other j (λ is. omega (arith, is, within)));
          codes = record {
            none = ap (λ (x : Task). x.code.todo) (created-code 0 (omega (arith, below))) ∙ codes.none;
            orderly = λ j. at-push (λ (x : Task). IsOrderlyCode x.code) no_task W.tasks (task_with new-code) j (codes.orderly j)
                (explicit-orderly run.program returns (view_of W t) (told W t) codeptr undeferred tree
                (orderly-told run W t (point.TaskCreate codeptr undeferred) tree returns codes below occurs) occurs);
            course = created-course;
          };
        }

  -- before the code goes past the event
  between-codes : (what : Point) → comes-to what → SameCodes W (effect_of_point run W t (told W t) what)
  unfolding effect_of_point
  between-codes (point.ParallelBegin codeptr requested) occurs = same-codes W _ codes (same-forked W t (nat_abs requested))
  between-codes (point.TaskCreate codeptr undeferred) occurs = created-codes codeptr undeferred occurs
  between-codes (point.ParallelEnd codeptr) occurs = same-codes W _ codes (same-changed W _ W.locks)
  between-codes (point.WorkBegin codeptr what) occurs = same-codes W _ codes (same-met W t (work_met codeptr what))
  between-codes (point.Sync codeptr which at) occurs = same-codes W _ codes (same-synced W t codeptr which at)
  between-codes (point.MutexAcquired codeptr id which) occurs = same-codes W _ codes (same-changed W W.regions _)
  between-codes (point.MutexReleased codeptr id which) occurs = same-codes W _ codes (same-changed W W.regions _)
  between-codes (point.LockInit codeptr id) occurs = same-codes W _ codes (same-changed W W.regions _)
  between-codes (point.LockDestroy codeptr id) occurs = same-codes W _ codes (same-changed W W.regions _)
  between-codes what occurs = same-codes W W codes (same-changed W W.regions W.locks)

  -- an event of the code
  pub touches-point : (what : Point) → comes-to what →
      TouchesWorld W (past_point W (effect_of_point run W t (told W t) what) t (told W t) what) t (event_of_point W t what) →
      Touches W (past_point W (effect_of_point run W t (told W t) what) t (told W t) what) t (event_of_point W t what)
  touches-point what occurs world =
      let between = effect_of_point run W t (told W t) what in
      let e = event_of_point W t what in
      let of_code = point-of-code W t what in
      let code = code-behind what in
      let after = past_point W between t (told W t) what in
      let gone : CodesAfter W after t e = subst (λ k. CodesAfter W (with_code between k code) t e) (sym (current-kept W after t e of_code world))
      (codes-past W between t e code (between-codes what occurs) (code-past run W t what tree returns codes below occurs) some below) in
      record {
        world = world;
        opens_own = λ is. gone.opens_own;
        stand_own = λ is. gone.stand_own;
        opens = λ j other. gone.opens j (other of_code);
        stands = λ j other. gone.stands j (other of_code);
        codes = gone.codes;
        behind = gone.behind;
        begins_ahead = begins-in-code W after e of_code;
      }
