-- No change of a world stores anything where no region and no task stands.
use Rattle.std.proofs.Common.{ℕ, zero, suc, ◌≡◌, Bool, true, false, if◌then◌else◌, List, slice_index_or, length, refl, sym, ◌∙◌, subst}
use Rattle.std.specs.Prelude.{Option, Some, None}
use Rattle.std.proofs.lemmas.Bool.{true≢false}
use Rattle.c_model.specs.declared.point.Point.{Point}
use Rattle.c_model.specs.declared.point.Point.TheVariants as point
use Rattle.c_model.specs.declared.point.SyncKind.{SyncKind}
use Rattle.c_model.specs.declared.point.SyncStage.{SyncStage}
use Rattle.c_model.specs.declared.point.SyncStage.TheVariants as stage
use Rattle.c_model.specs.Begin.{blank_task, explicit_task}
use Rattle.c_model.specs.AfterEvents.{after_event}
use Rattle.c_model.specs.Step.{silent}
use Rattle.c_model.specs.Task.{Moment, Outcome, Task as Code}
use Rattle.c_model.specs.Task.Outcome.{Occurs}
use Rattle.task_pool.specs.declared.task.TaskKind.{TaskKind}
use Rattle.task_pool.specs.declared.task.TaskKind.TheVariants as kind
use Rattle.task_pool.specs.Tasks.{is_finished}
use Rattle.task_pool.specs.View.{with_finished, with_ready, with_started}
use Rattle.team_parts.specs.declared.meeting.Meeting.{Meeting}
use Rattle.team_parts.specs.Team.{TeamView}
use Rattle.ompt_calls.specs.declared.snapshot.Target.{Target}
use Rattle.ompt_calls.specs.declared.snapshot.Target.TheVariants as target
use Rattle.omp_model.specs.declared.limits.TheConstants.{IMPLICIT_REGION, INITIAL_TASK}
use Rattle.omp_model.specs.declared.parts.RegionHead.{RegionHead}
use Rattle.omp_model.specs.declared.event.Event.{Event}
use Rattle.omp_model.specs.declared.event.Event.TheVariants as event
use Rattle.omp_model.specs.declared.event.Halt.{Halt}
use Rattle.omp_model.specs.State.{Region, Run, Task, World, is_under_way, no_region, no_task, pooled_at, region_at, task_at, task_with, thread_at, with_region, with_task, with_thread}
use Rattle.omp_model.proofs.Alike.{QuietWorld}
use Rattle.omp_model.specs.Members.{current, current_index, current_region, is_member, is_outermost, view_of}
use Rattle.omp_model.specs.Gates.{is_barrier}
use Rattle.omp_model.specs.Changes.{with_invitations, with_wait_begun, with_finished_task, with_forked_region, is_fresh, with_member_meeting, with_members_invited, with_barrier_passed, without_current_task, with_current_task, with_ready_task, region_made, with_started_task, with_invitation, taken_up, task_made, with_code, with_head, with_team}
use Rattle.omp_model.specs.EventEffects.{Going, Nothing, Halts, Happens as Occurred, after_meeting_at, after_member, after_sync, barrier_met, effect_of, effect_of_point, event_of_point, executes_point, fault_of_point, going_by, go_of_code, kind_of_task, member_code, past_point, told, unless, work_met}
use Rattle.omp_model.specs.Returning.{after_created, at_back}
use Rattle.omp_model.specs.Words.{stored, is_made}
use Rattle.omp_model.proofs.Later.{at-set}
use Rattle.omp_model.proofs.MadeWords.{at-push}

-- nothing is stored at place 0 of tasks and of regions, where none stands
pub record Bare (tasks : List Task) (regions : List Region) : Type 0 where
  pub task : (slice_index_or tasks 0 no_task).word ≡ 0
  pub region : (slice_index_or regions 0 no_region).head.word ≡ 0

abbrev pub IsBare : World → Type 0
IsBare W = Bare W.tasks W.regions

-- What changes a world, and no word.

bare-either : (one other : World) (b : Bool) → IsBare one → IsBare other → IsBare (if b then one else other)
bare-either one other true first second = first
bare-either one other false first second = second

bare-task : (W : World) (k : ℕ) (task : Task) → IsBare W → task.word ≡ (task_at W k).word → IsBare (with_task W k task)
bare-task W k task bare same =
    record {
      task = at-set (λ (x : Task). x.word ≡ 0) no_task W.tasks k 0 task bare.task (λ is. same ∙ subst (λ j. (task_at W j).word ≡ 0) is bare.task);
      region = bare.region;
    }

bare-region : (W : World) (r : ℕ) (region : Region) → IsBare W → region.head.word ≡ (region_at W r).head.word → IsBare (with_region W r region)
bare-region W r region bare same =
    record {
      task = bare.task;
      region = at-set (λ (x : Region). x.head.word ≡ 0) no_region W.regions r 0 region bare.region (λ is. same ∙ subst (λ q. (region_at W q).head.word ≡ 0) is bare.region);
    }

bare-code : (W : World) (k : ℕ) (code : Code) → IsBare W → IsBare (with_code W k code)
bare-code W k code bare = bare-task W k _ bare refl

bare-head : (W : World) (r : ℕ) (head : RegionHead) → IsBare W → head.word ≡ (region_at W r).head.word → IsBare (with_head W r head)
bare-head W r head bare same = bare-region W r _ bare same

bare-team : (W : World) (r : ℕ) (team : TeamView) → IsBare W → IsBare (with_team W r team)
bare-team W r team bare = bare-region W r _ bare refl

bare-task_made : (W : World) (parent r : ℕ) (which : TaskKind) (code : Code) → IsBare W → IsBare (task_made W parent r which code)
bare-task_made W parent r which code bare =
    record { task = at-push (λ (x : Task). x.word ≡ 0) no_task W.tasks (task_with code) 0 bare.task refl; region = bare.region }

bare-region_made : (W : World) (region : Region) → IsBare W → region.head.word ≡ 0 → IsBare (region_made W region)
bare-region_made W region bare fresh =
    record { task = bare.task; region = at-push (λ (x : Region). x.head.word ≡ 0) no_region W.regions region 0 bare.region fresh }

bare-readied : (W : World) (k : ℕ) → IsBare W → IsBare (with_ready_task W k)
bare-readied W k bare = bare-either (record W { pool = with_ready W.pool k }) W (is_fresh (pooled_at W k).condition) bare bare

bare-started : (W : World) (k : ℕ) → IsBare W → IsBare (with_started_task W k)
bare-started W k bare = bare-either W (record W { pool = with_started W.pool k }) (is_finished (pooled_at W k).condition) bare bare

bare-finished : (W : World) (k : ℕ) → IsBare W → IsBare (with_finished_task W k)
bare-finished W k bare = bare-either (record W { pool = with_finished W.pool k }) W (is_under_way (pooled_at W k).condition) bare bare

bare-opened : (W : World) (t r : ℕ) → IsBare W → IsBare (with_members_invited W t r)
bare-opened W t r bare =
    bare-either (record W { threads = with_invitations r (region_at W r).head.size W.threads }) (with_thread W t (with_invitation r (thread_at W t))) (is_outermost W r) bare bare

bare-taken_up : (W : World) (t k : ℕ) → IsBare W → IsBare (taken_up W t k)
bare-taken_up W t k bare = bare-task (with_current_task W t k) k _ bare refl

-- silent steps
pub bare-quiet : (t : ℕ) (W after : World) → QuietWorld t W after → IsBare W → IsBare after
bare-quiet t W after quiet bare = record { task = quiet.task_words 0 ∙ bare.task; region = quiet.region_words 0 ∙ bare.region }

-- Events of the code.

bare-met : (W : World) (t : ℕ) (what : Meeting) → IsBare W → IsBare (after_meeting_at W t what)
bare-met W t what bare =
    bare-either (with_member_meeting W (current_region W t) (current_index W t) what) W (is_member W t) (bare-team W (current_region W t) _ bare) bare

bare-synced : (W : World) (t codeptr : ℕ) (which : SyncKind) (at : SyncStage) → IsBare W → IsBare (after_sync W t codeptr which at)
bare-synced W t codeptr which stage.RegionBegin bare =
    let what = barrier_met codeptr which in bare-either (after_meeting_at W t what) W (is_barrier which) (bare-met W t what bare) bare
bare-synced W t codeptr which stage.WaitEnd bare =
    bare-either (with_barrier_passed W (current_region W t) (current_index W t)) W (is_barrier which) (bare-team W (current_region W t) _ bare) bare
bare-synced W t codeptr which other bare = bare

bare-effect : (run : Run) (W : World) (t : ℕ) (now : Moment) (what : Point) → IsBare W → IsBare (effect_of_point run W t now what)
unfolding effect_of_point
bare-effect run W t now (point.ParallelBegin codeptr requested) bare =
    bare-region_made (with_forked_region W (current W t) (length W.regions)) _ (bare-task W (current W t) _ bare refl) refl
bare-effect run W t now (point.ParallelEnd codeptr) bare = bare-head W (task_at W (current W t)).forked _ bare refl
bare-effect run W t now (point.TaskCreate codeptr undeferred) bare =
    bare-task_made W (current W t) (current_region W t) (kind_of_task undeferred) (explicit_task run.program (view_of W t) now).task bare
bare-effect run W t now (point.WorkBegin codeptr what) bare = bare-met W t (work_met codeptr what) bare
bare-effect run W t now (point.Sync codeptr which at) bare = bare-synced W t codeptr which at bare
bare-effect run W t now (point.MutexAcquired codeptr id which) bare = bare
bare-effect run W t now (point.MutexReleased codeptr id which) bare = bare
bare-effect run W t now (point.LockInit codeptr id) bare = bare
bare-effect run W t now (point.LockDestroy codeptr id) bare = bare
bare-effect run W t now other bare = bare

abbrev pub BareGoing : Going → Type 0
BareGoing Nothing = Unit {0}
BareGoing (Halts halt) = Unit {0}
BareGoing (Occurred e after) = IsBare after

pub bare-unless : (halt : Option Halt) (e : Event) (after : World) → IsBare after → BareGoing (unless halt e after)
bare-unless (Some halt) e after bare = tt
bare-unless None e after bare = bare

bare-going : (run : Run) (W : World) (t : ℕ) (now : Moment) (next : Outcome) → IsBare W → BareGoing (going_by run W t now next)
bare-going run W t now (Occurs what tree) bare =
    let between = effect_of_point run W t now what in
    bare-unless (fault_of_point W t now.task what) (event_of_point W t what) (past_point W between t now what)
    (bare-code between (current between t) (after_event (view_of W t) what (executes_point W t what) now.task) (bare-effect run W t now what bare))
bare-going run W t now other bare = tt

pub bare-in_code : (run : Run) (W : World) (t : ℕ) → IsBare W → BareGoing (go_of_code run W t)
unfolding go_of_code
bare-in_code run W t bare = bare-going run W t (told W t) (silent run.program (view_of W t) (told W t)) bare

-- Events beside all code.

bare-member : (W : World) (t r k : ℕ) → IsBare W → IsBare (after_member W t r k)
bare-member W t r k bare =
    let parent = (region_at W r).head.task in
    let W1 = task_made W parent r kind.Implicit (member_code (task_at W parent).code) in
    let W2 = with_started_task W1 k in
    bare-head (taken_up W2 t k) r _
    (bare-taken_up W2 t k (bare-started W1 k (bare-task_made W parent r kind.Implicit (member_code (task_at W parent).code) bare))) refl

pub bare-beside : (W : World) (t : ℕ) (e : Event) → IsBare W → IsBare (effect_of W t e)
unfolding effect_of
bare-beside W t event.ThreadBegin bare = bare
bare-beside W t event.InitialTaskBegin bare =
    let up = taken_up W t INITIAL_TASK in
    bare-head (with_started_task up INITIAL_TASK) IMPLICIT_REGION _ (bare-started up INITIAL_TASK (bare-taken_up W t INITIAL_TASK bare)) refl
bare-beside W t event.InitialTaskEnd bare = bare-finished (without_current_task W t) INITIAL_TASK bare
bare-beside W t (event.MemberBegin r k) bare = bare-member W t r k bare
bare-beside W t (event.MemberEnd r k) bare = bare-code (with_finished_task (without_current_task W t) k) k blank_task (bare-finished (without_current_task W t) k bare)
bare-beside W t (event.TaskBegin prior task) bare = bare-started (taken_up W t task) task (bare-taken_up W t task bare)
bare-beside W t (event.TaskEnd task) bare = bare-code (without_current_task W t) task blank_task bare
bare-beside W t (event.Dispatch share) bare = bare
bare-beside W t other bare = bare

-- What takes hold at a Back.

bare-created : (W : World) (t task : ℕ) (undeferred : Bool) → IsBare W → IsBare (after_created W t task undeferred)
bare-created W t task true bare = bare
bare-created W t task false bare = bare-readied W task bare

pub bare-at_back : (W : World) (t : ℕ) (e : Event) → IsBare W → IsBare (at_back W t e)
unfolding at_back
bare-at_back W t event.ThreadEnd bare = bare
bare-at_back W t (event.ParallelBegin r requested codeptr) bare = bare-opened W t r bare
bare-at_back W t (event.ParallelEnd r codeptr) bare = bare-task W (current W t) _ bare refl
bare-at_back W t (event.MemberEnd r k) bare = bare-head W r _ bare refl
bare-at_back W t (event.TaskCreate task undeferred codeptr) bare = bare-created W t task undeferred bare
bare-at_back W t (event.TaskEnd task) bare = bare-finished W task bare
bare-at_back W t (event.Sync which stage.WaitBegin codeptr) bare =
    bare-either (with_wait_begun W (current_region W t) (current_index W t)) W (is_barrier which) (bare-team W (current_region W t) _ bare) bare
bare-at_back W t other bare = bare

-- What a tool stores: the word of what was made, and so none at place 0.

pub bare-stored : (W : World) (place : Target) (word : ℕ) → is_made W place ≡ true → IsBare W → IsBare (stored W place word)
bare-stored W (target.Thread t) word made bare = bare
bare-stored W (target.Parallel zero) word made bare = absurd (true≢false (sym made))
bare-stored W (target.Parallel (suc r)) word made bare =
    record { task = bare.task; region = at-set (λ (x : Region). x.head.word ≡ 0) no_region W.regions (suc r) 0 _ bare.region (λ is. cc) }
bare-stored W (target.Task zero) word made bare = absurd (true≢false (sym made))
bare-stored W (target.Task (suc k)) word made bare =
    record { task = at-set (λ (x : Task). x.word ≡ 0) no_task W.tasks (suc k) 0 _ bare.task (λ is. cc); region = bare.region }
