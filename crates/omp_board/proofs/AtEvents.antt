-- What the event that a task's code has come to changes beside the code, and the Go that comes of it.
use Rattle.std.proofs.Common.{◌≡◌, ℕ, ◌≤◌, Bool, true, false, if◌then◌else◌, List, [], ◌∷◌, length, refl, sym, ap, ◌∙◌, subst, arith}
use Rattle.std.specs.Prelude.{Option, None}
use Rattle.std.proofs.lemmas.List.{get_or_append_left}
use Rattle.c_syntax.specs.language.Numbered.{TreeView}
use Rattle.c_model.specs.declared.point.Point.{Point}
use Rattle.c_model.specs.declared.point.Point.TheVariants as point
use Rattle.c_model.specs.declared.point.SyncKind.{SyncKind}
use Rattle.c_model.specs.declared.point.SyncStage.{SyncStage}
use Rattle.c_model.specs.declared.point.SyncStage.TheVariants as stage
use Rattle.c_model.specs.AfterEvents.{settled_after_event}
use Rattle.c_model.specs.Step.{settled_moment}
use Rattle.c_model.specs.Task.{Task as Code}
use Rattle.task_pool.specs.Tasks.{MayBeParent}
use Rattle.team_parts.specs.declared.meeting.Meeting.{Meeting}
use Rattle.omp_model.specs.declared.event.Event.{Event}
use Rattle.omp_model.specs.declared.event.Halt.{Halt}
use Rattle.omp_model.specs.State.{Run, Task, World, no_task, task_at}
use Rattle.omp_model.specs.Members.{code_of, current, current_index, current_region, is_member, moment_of, view_of}
use Rattle.omp_model.specs.Changes.{with_member_meeting, with_barrier_passed, with_code}
use Rattle.omp_model.specs.Gates.{is_barrier}
use Rattle.omp_model.specs.EventEffects.{Happens, after_meeting_at, after_sync, barrier_met, effect_of_point, event_of_point, executes_point, fault_of_point, going_to_point, past_point, unless, work_met}
use Rattle.omp_model.specs.MadeWorld.{IsMadeWorld, IsTask}
use Rattle.omp_model.proofs.Later.{at-set}
use Rattle.omp_model.proofs.MadeEvents.{current-made}
use Rattle.omp_board.specs.Board.{run_of}
use Rattle.omp_board.specs.Answering.{IsSettled}
use Rattle.omp_board.specs.Events.{HasComeTo, MayCreate}
use Rattle.omp_board.proofs.Beside.{may-be-parent}
use Rattle.omp_board.proofs.Creations.{creation_fits, creation_stands}

-- an explicit task is made of what the code has come to, with room for its cells
pub may_create : (program : TreeView) (W : World) (t : ℕ) (what : Point) (node : ℕ) → HasComeTo program W t what node → MayCreate program W t what
may_create program W t (point.TaskCreate codeptr undeferred) node come =
    let now = moment_of W t in
    let still : now ≡ settled_moment (view_of W t) now = ap (λ (code : Code). record now { task = code }) (sym come.settled) in
    record {
      some = come.some;
      settled = come.settled;
      creation = creation_stands program (view_of W t) now now still codeptr undeferred node (sym come.occurs);
      cells = creation_fits program (view_of W t) now now still codeptr undeferred node (sym come.occurs);
    }
may_create program W t other node come = tt

-- a thread's current task and its code
pub record SameCode (W V : World) (t : ℕ) : Type 0 where
  pub current : current V t ≡ current W t
  pub code : code_of V t ≡ code_of W t

module _ (W : World) (t : ℕ) (made : IsMadeWorld W) (some : 1 ≤ current W t) where
  made-task : IsTask W (current W t)
  made-task = (current-made W t made some).made

  pub parent_made : MayBeParent W.pool.tasks (current W t)
  parent_made = may-be-parent W.pool.tasks (current W t) some (omega (arith, made-task.below, made.pooled))

  same : SameCode W W t
  same = record { current = refl; code = refl }

  either : (one other : World) (b : Bool) → SameCode W one t → SameCode W other t → SameCode W (if b then one else other) t
  either one other true first second = first
  either one other false first second = second

  code-meeting : (what : Meeting) → SameCode W (after_meeting_at W t what) t
  code-meeting what = either (with_member_meeting W (current_region W t) (current_index W t) what) W (is_member W t) (record { current = refl; code = refl }) same

  code-sync : (codeptr : ℕ) (which : SyncKind) (at : SyncStage) → SameCode W (after_sync W t codeptr which at) t
  code-sync codeptr which stage.RegionBegin = either (after_meeting_at W t (barrier_met codeptr which)) W (is_barrier which) (code-meeting (barrier_met codeptr which)) same
  code-sync codeptr which stage.WaitEnd = either (with_barrier_passed W (current_region W t) (current_index W t)) W (is_barrier which) (record { current = refl; code = refl }) same
  code-sync codeptr which other = same

  -- the code stays as it is
  code_after : (run : Run) (what : Point) → SameCode W (effect_of_point run W t (moment_of W t) what) t
  unfolding effect_of_point
  code_after run (point.ParallelBegin codeptr requested) =
      record {
        current = refl;
        code = at-set (λ (task : Task). task.code ≡ code_of W t) no_task W.tasks (current W t) (current W t) (record (task_at W (current W t)) { forked = length W.regions }) refl (λ is. refl);
      }
  code_after run (point.TaskCreate codeptr undeferred) =
      record { current = refl; code = ap (λ (task : Task). task.code) (get_or_append_left W.tasks _ no_task (current W t) made-task.below) }
  code_after run (point.WorkBegin codeptr what) = code-meeting (work_met codeptr what)
  code_after run (point.Sync codeptr which at) = code-sync codeptr which at
  code_after run other = record { current = refl; code = refl }

  pub code_behind : (run : Run) (what : Point) (V : World) → V ≡ effect_of_point run W t (moment_of W t) what → SameCode W V t
  code_behind run what V is = subst (λ (V : World). SameCode W V t) (sym is) (code_after run what)

-- what happens where an event of settled code meets no trap or limit
pub happens : (program : TreeView) (W V after : World) (t : ℕ) (what : Point) (which : Event) (executes : Bool) → IsSettled W t → fault_of_point W t (code_of W t) what ≡ None → which ≡ event_of_point W t what → executes ≡ executes_point W t what →
    V ≡ effect_of_point (run_of program) W t (moment_of W t) what → SameCode W V t → after ≡ with_code V (current V t) (settled_after_event what executes (code_of V t)) →
    going_to_point (run_of program) W t (moment_of W t) what ≡ Happens which after
happens program W V after t what which executes settled none event is_executes effect same went =
    let now = moment_of W t in
    let run = run_of program in
    let past : after ≡ past_point W V t now what =
    went
    ∙ ap (λ b. with_code V (current V t) (settled_after_event what b (code_of V t))) is_executes
    ∙ ap (λ (code : Code). with_code V (current V t) (settled_after_event what (executes_point W t what) code)) (same.code ∙ sym settled) in
    ap (λ (fault : Option Halt). unless fault (event_of_point W t what) (past_point W (effect_of_point run W t now what) t now what)) none
    ∙ ap (λ (event : Event). Happens event (past_point W (effect_of_point run W t now what) t now what)) (sym event)
    ∙ ap (λ (V : World). Happens which (past_point W V t now what)) (sym effect)
    ∙ ap (Happens which) (sym past)
