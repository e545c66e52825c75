-- What is so where a thread has come to an event beside all code, as far as the form of the code tells it.
use Rattle.std.proofs.Common.{◌≡◌, ℕ, ◌≢◌, ◌==◌, ◌⊎◌, Bool, true, false, if◌then◌else◌, List, [], ◌∷◌, refl, ap, sym, ◌∙◌, subst, inl, inr}
use Rattle.std.specs.Prelude.{Some, pos, unwrap_or}
use Rattle.std.proofs.lemmas.Bool.{and_parts, eqb-true}
use Rattle.c_syntax.specs.language.Numbered.{TreeView}
use Rattle.c_model.specs.declared.point.MutexKind.{MutexKind}
use Rattle.c_model.specs.declared.point.SyncKind.{SyncKind}
use Rattle.c_model.specs.declared.point.SyncStage.{SyncStage}
use Rattle.c_model.specs.declared.point.SyncStage.TheVariants as stage
use Rattle.c_model.specs.declared.upcoming.Upcoming.TheVariants as upcoming
use Rattle.c_model.specs.declared.view.View.{View}
use Rattle.c_model.specs.Step.{is_event, items_from_next, silent, step_at}
use Rattle.c_model.specs.Task.{Item, Moment}
use Rattle.c_model.specs.Task.Item.{Acquire, Forked, Sync, TestLock}
use Rattle.c_model.specs.Task.Outcome.{Ends}
use Rattle.c_model.specs.Upcoming.{upcoming_among}
use Rattle.c_brackets.specs.Returns.{HasReturnsOutside}
use Rattle.task_pool.specs.Allowed.{is_allowed}
use Rattle.task_pool.specs.declared.task.TaskKind.TheVariants as kind
use Rattle.omp_model.specs.declared.limits.TheConstants.{INITIAL_TASK}
use Rattle.omp_model.specs.declared.parts.ThreadStage.TheVariants as thread_stage
use Rattle.omp_model.specs.declared.event.Event.{Event}
use Rattle.omp_model.specs.declared.event.Event.TheVariants as event
use Rattle.omp_model.specs.State.{Run, World, pooled_at, thread_at}
use Rattle.omp_model.specs.Members.{code_of, current, current_region, moment_of, region_of, view_of}
use Rattle.omp_model.specs.Conditions.{AreOrderly, IsReady}
use Rattle.omp_model.specs.Gates.{held_tasks, next_task}
use Rattle.omp_model.specs.MadeWorld.{IsMadeWorld, IsTask}
use Rattle.omp_model.proofs.Arriving.{Begins, IsOver, IsWaiting, Ready, Reached, Undeferred, ready-within}
use Rattle.omp_model.proofs.MadeEvents.{Found, current-below, found-last}
use Rattle.nested_runs.proofs.Coming.{Comes, ComesToTask}
use Rattle.nested_runs.proofs.Shown.{opens_at}
use Rattle.nested_runs.proofs.Standing.{is_behind, stand_among, stand_at, stand_within}
use Rattle.nested_runs.proofs.Standing.Stand.{Free, AtFork, AtMutex, AtSync}
use Rattle.nested_runs.proofs.Touching.{AreCodes}
use Rattle.nested_runs.proofs.Codes.{ended-open}
use Rattle.nested_runs.proofs.Courses.{course-ended}
use Rattle.nested_runs.proofs.Stands.{stand-settled}

-- What comes next tells where the code stands.
by-form-apart : (is : Bool) (which : SyncKind) (at : SyncStage) → (if is then upcoming.Event else upcoming.Step) ≡ upcoming.Sync which at → ⊥
by-form-apart true which at same = cc
by-form-apart false which at same = cc

stand-syncing : (items : List Item) (which : SyncKind) (at : SyncStage) → upcoming_among items ≡ upcoming.Sync which at
    → stand_among items ≡ stand_within which at
stand-syncing [] which at next = absurd (cc)
stand-syncing (Forked construct ∷ items) which at next = absurd (cc)
stand-syncing (Acquire tree kind id ∷ items) which at next = absurd (cc)
stand-syncing (TestLock tree id to ∷ items) which at next = absurd (cc)
stand-syncing (Sync tree kind now ∷ items) which at next =
    let same : kind ≡ which = cc in
    let stage : now ≡ at = cc in
    ap (λ (kind : SyncKind). stand_within kind now) same ∙ ap (stand_within which) stage
stand-syncing (item ∷ items) which at next = absurd (by-form-apart (is_event item) which at next)

by-form-ended : (is : Bool) → (if is then upcoming.Event else upcoming.Step) ≡ upcoming.End → ⊥
by-form-ended true same = cc
by-form-ended false same = cc

ended-none : (items : List Item) → upcoming_among items ≡ upcoming.End → items ≡ []
ended-none [] next = refl
ended-none (Forked construct ∷ items) next = absurd (cc)
ended-none (Acquire tree kind id ∷ items) next = absurd (cc)
ended-none (TestLock tree id to ∷ items) next = absurd (cc)
ended-none (Sync tree kind now ∷ items) next = absurd (cc)
ended-none (item ∷ items) next = absurd (by-form-ended (is_event item) next)

ended-silent : (program : TreeView) (view : View) (now : Moment) → items_from_next view now.task.todo ≡ []
    → silent program view now ≡ Ends (unwrap_or now.task.returned (pos 0))
unfolding silent
ended-silent program view now none = ap (λ (items : List Item). step_at items program view now) none

-- a task that waits for others stands at no region's end and before no lock
record MayStart (W : World) (t : ℕ) : Type 0 where
  apart : stand_at W (current W t) ≢ AtFork
  unasked : (which : MutexKind) (id : ℕ) → stand_at W (current W t) ≢ AtMutex which id

-- a task that is ready, in the thread's region
record IsPicked (W : World) (t k : ℕ) : Type 0 where
  ready : IsReady W k
  region : region_of W k ≡ current_region W t

module _ (run : Run) (W : World) (t : ℕ) (returns : HasReturnsOutside run.program) (codes : AreCodes W) (made : IsMadeWorld W) (orderly : AreOrderly W) where
  -- the code of the current task
  settled : stand_among (items_from_next (view_of W t) (code_of W t).todo) ≡ stand_at W (current W t)
  settled = stand-settled (view_of W t) (code_of W t) (codes.orderly (current W t))

  -- a task that is started in a wait, or behind main
  picked : (k : ℕ) → next_task W t ≡ Some k → IsPicked W t k
  picked k is =
      subst (Found (IsPicked W t)) is
      (found-last (IsReady W) (IsPicked W t) (is_allowed W.pool.tasks (current_region W t) (held_tasks W t)) W.pool.ready orderly.ready
      (λ (j : ℕ) (ready : IsReady W j) (allows : is_allowed W.pool.tasks (current_region W t) (held_tasks W t) j ≡ true).
      record { ready = ready; region = eqb-true (region_of W j) (current_region W t) (and_parts (region_of W j == current_region W t) _ allows).0 }))

  was-made : (k : ℕ) → next_task W t ≡ Some k → IsTask W k
  was-made k is =
      subst (Found (IsTask W)) is
      (found-last (IsTask W) (IsTask W) (is_allowed W.pool.tasks (current_region W t) (held_tasks W t)) W.pool.ready made.ready
      (λ (j : ℕ) (there : IsTask W j) (allows : is_allowed W.pool.tasks (current_region W t) (held_tasks W t) j ≡ true). there))

  -- the end of the code
  module _ (over : IsOver W t) where
    nothing-left : items_from_next (view_of W t) (code_of W t).todo ≡ []
    nothing-left = ended-none (items_from_next (view_of W t) (code_of W t).todo) over.next

    free : stand_at W (current W t) ≡ Free
    free = sym settled ∙ ap stand_among nothing-left

    closed : opens_at W (current W t) ≡ []
    closed = ended-open run.program returns (view_of W t) (moment_of W t) _ (codes.orderly (current W t))
        (ended-silent run.program (view_of W t) (moment_of W t) nothing-left)

    behind : (pooled_at W (current W t)).kind ≡ kind.Implicit → is_behind (code_of W t) ≡ true
    behind is =
        course-ended run.program (view_of W t) (moment_of W t) _ (codes.orderly (current W t)) (codes.course (current W t) is (current-below W t made))
        (ended-silent run.program (view_of W t) (moment_of W t) nothing-left)

  -- .. and a wait
  may-start : (IsOver W t ⊎ IsWaiting W t) → MayStart W t
  may-start (inl over) =
      record {
        apart = λ is. let other : Free ≡ AtFork = sym (free over) ∙ is in cc;
        unasked = λ which id is. let other : Free ≡ AtMutex which id = sym (free over) ∙ is in cc;
      }
  may-start (inr waiting) =
      let which = waiting.which in
      let stands : stand_at W (current W t) ≡ AtSync which stage.WaitEnd =
      sym settled ∙ stand-syncing (items_from_next (view_of W t) (code_of W t).todo) which stage.WaitEnd waiting.next in
      record {
        apart = λ at. let other : AtSync which stage.WaitEnd ≡ AtFork = sym stands ∙ at in cc;
        unasked = λ kind id at. let other : AtSync which stage.WaitEnd ≡ AtMutex kind id = sym stands ∙ at in cc;
      }

  starts : (prior k : ℕ) → (thread_at W t).stage ≡ thread_stage.Begun → prior ≡ current W t → Begins W t k → ComesToTask W t prior k
  starts prior k begun before (Undeferred uninvited is some) =
      record { stage = begun; before = before; some = some; picks = inr (record { task = sym is; invited = uninvited }) }
  starts prior k begun before (Ready may is) =
      let one = picked k is in
      let within = ready-within W t may in
      let starting = may-start may in
      record {
        stage = begun;
        before = before;
        some = (was-made k is).some;
        picks = inl (record { within = within; ready = one.ready; region = one.region; apart = starting.apart; unasked = starting.unasked });
      }

  -- an event beside all code
  pub comes-beside : (e : Event) → Reached W t e → Comes W t e
  comes-beside event.ThreadBegin at = at
  comes-beside event.ThreadEnd at = at
  comes-beside event.InitialTaskBegin at = record { quiet = at.quiet; zeroth = at.thread; none = at.none; made = at.condition }
  comes-beside event.InitialTaskEnd at =
      let first : current W t ≡ INITIAL_TASK = orderly.alone (current W t) at.kind in
      record {
        within = at.over.within;
        task = first;
        closed = subst (λ (k : ℕ). opens_at W k ≡ []) first (closed at.over);
        tasks = at.tasks;
        workers = at.workers;
      }
  comes-beside (event.MemberBegin r k) at = record { stage = at.stage; region = sym at.region; some = at.some; task = at.task }
  comes-beside (event.MemberEnd r k) at =
      let same = at.end.task in
      record {
        within = at.over.within;
        task = same;
        region = at.region;
        kind = at.kind;
        closed = rw same (closed at.over);
        stand = rw same (free at.over);
        behind = rw same (behind at.over (subst (λ j. (pooled_at W j).kind ≡ kind.Implicit) same at.kind));
      }
  comes-beside (event.TaskBegin prior k) at = starts prior k at.stage at.before at.task
  comes-beside (event.TaskEnd k) at =
      let same = at.end.task in
      record { within = at.over.within; task = same; explicit = at.explicit; closed = rw same (closed at.over); stand = rw same (free at.over) }
  comes-beside (event.Dispatch share) at = at
  comes-beside other at = absurd at
