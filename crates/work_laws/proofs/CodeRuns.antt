-- What is so of each item of each task's code, in each state that entries lead to.
use Rattle.work_laws.proofs.Shares.{may-any-next}
use Rattle.std.proofs.Common.{ℕ, ◌≡◌, ◌++◌, Bool, true, false, if◌then◌else◌, Some, None, List, [], ◌∷◌, slice_index_or, slice_set, refl}
use Rattle.std.specs.Prelude.{Option}
use Rattle.ompt_calls.specs.declared.snapshot.Target.{Target}
use Rattle.ompt_calls.specs.declared.snapshot.Target.TheVariants as target
use Rattle.c_syntax.specs.language.Tree.{Tree}
use Rattle.c_model.specs.declared.point.Point.{Point}
use Rattle.c_model.specs.declared.point.Point.TheVariants as point
use Rattle.c_model.specs.declared.point.SyncKind.{SyncKind}
use Rattle.c_model.specs.declared.point.SyncStage.{SyncStage}
use Rattle.c_model.specs.declared.point.SyncStage.TheVariants as stage
use Rattle.c_model.specs.declared.point.WorkKind.{WorkKind}
use Rattle.c_model.specs.declared.question.Answer.{Answer}
use Rattle.c_model.specs.declared.question.Answer.TheVariants as answer
use Rattle.c_model.specs.Begin.{blank_task, explicit_task, member_task}
use Rattle.c_model.specs.Program.{body_of, function_named}
use Rattle.c_model.specs.Step.{silent, settled_task}
use Rattle.c_model.specs.Task.{Outcome, Task as Code}
use Rattle.c_model.specs.Task.Outcome.{Asks, Ends, Limits, Occurs, StepsTo, Traps}
use Rattle.task_pool.specs.declared.task.TaskKind.TheVariants as kind
use Rattle.task_pool.specs.Tasks.{is_finished}
use Rattle.team_parts.specs.declared.meeting.Meeting.{Meeting}
use Rattle.omp_model.specs.declared.limits.TheConstants.{INITIAL_TASK}
use Rattle.omp_model.specs.declared.event.Arrival.TheVariants.{Steps}
use Rattle.omp_model.specs.declared.event.Callback.{Callback}
use Rattle.omp_model.specs.declared.event.Event.{Event}
use Rattle.omp_model.specs.declared.event.Event.TheVariants as event
use Rattle.omp_model.specs.declared.event.Outcome.{Outcome as TurnOutcome}
use Rattle.omp_model.specs.declared.event.Outcome.TheVariants as outcome
use Rattle.omp_model.specs.declared.history.Entry.{Entry}
use Rattle.omp_model.specs.declared.history.What.{What}
use Rattle.omp_model.specs.declared.history.What.TheVariants.{Go, Put, Back}
use Rattle.omp_model.specs.Changes.{without_code, with_finished_task, with_masked_skipped, is_fresh, with_member_meeting, with_members_invited, with_barrier_passed, without_current_task, with_ready_task, with_started_task, taken_up, task_made}
use Rattle.omp_model.specs.Gates.{arrival, is_barrier}
use Rattle.omp_model.specs.EventEffects.{Happens, after_meeting_at, after_sync, barrier_met, effect_of, effect_of_point, event_of_point, executes_point, fault_of, fault_of_point, going_by, go_of_code, has_forked, member_code, past_point, told, work_met}
use Rattle.omp_model.specs.Legal.{after, back_from, does, put_from}
use Rattle.omp_model.specs.Members.{code_of, current, current_index, current_region, is_member, is_outermost, moment_of, view_of}
use Rattle.omp_model.specs.Returning.{at_back}
use Rattle.omp_model.specs.Silent.{answer_to, silence_of, silent_step}
use Rattle.omp_model.specs.State.{Run, State, Task, World, first, first_world, is_under_way, no_task, pending_at, pooled_at, region_at, task_at, task_with}
use Rattle.omp_model.specs.Turn.{turn, walk}
use Rattle.omp_model.specs.Words.{stored}
use Rattle.omp_model.proofs.Gos.{unless-goes}
use Rattle.omp_model.proofs.Later.{at-set}
use Rattle.omp_model.proofs.MadeWords.{at-push}
use Rattle.omp_model.proofs.Turning.{AfterSilence, Beside, GoOf, OfCode, Turned, of-entries, of-turn, of-walk}
use Rattle.nested_runs.proofs.FirstWorlds.{first-tasks}
use Rattle.work_laws.proofs.Items.{AreRules, HoldsCode, AnyTree}
use Rattle.work_laws.proofs.ItemSteps.{MayAnswer, MayEndSingle, holds-answer, holds-blank, holds-event, holds-explicit, holds-main, holds-member, holds-settled, holds-step}

-- any work may end
abbrev pub AnyEnd : WorkKind → Type 0
AnyEnd kind = Unit {0}

pub any-single : MayEndSingle AnyEnd
any-single = record { executor = tt; other = tt }

may-any : (given : Answer) → MayAnswer AnyEnd given
may-any (answer.Chunk None) = tt
may-any (answer.Chunk (Some chunk)) = tt
may-any (answer.Section None) = tt
may-any (answer.Section (Some section)) = tt
may-any (answer.Free free) = tt

module _ (run : Run) (T S : Tree → Type 0) (rules : AreRules T S)
    (functions : (name : ℕ) → T (body_of (function_named run.program name))) where
  abbrev Holds : Code → Type 0
  Holds code = HoldsCode T S AnyTree AnyEnd code

  abbrev HoldsTask : Task → Type 0
  HoldsTask task = Holds task.code

  abbrev pub AllHold : World → Type 0
  AllHold W = (k : ℕ) → HoldsTask (task_at W k)

  -- ---- a code changes

  changed : (W : World) (k : ℕ) (task : Task) → AllHold W → HoldsTask task → (j : ℕ) → HoldsTask (slice_index_or (slice_set W.tasks k task) j no_task)
  changed W k task all holds j = at-set HoldsTask no_task W.tasks k j task (all j) (λ is. holds)

  added : (W : World) (task : Task) → AllHold W → HoldsTask task → (j : ℕ) → HoldsTask (slice_index_or (W.tasks ++ task ∷ []) j no_task)
  added W task all holds j = at-push HoldsTask no_task W.tasks task j (all j) holds

  -- ---- silent steps

  pub all-past : (W : World) (t : ℕ) → AllHold W → AllHold (with_masked_skipped W t)
  all-past W t all = changed W (current W t) _ all (holds-settled T S AnyTree AnyEnd rules any-single (view_of W t) (code_of W t) (all (current W t)))

  all-by : (W : World) (t : ℕ) → AllHold W → (outcome : Outcome) → silent run.program (view_of W t) (moment_of W t) ≡ outcome →
      AfterSilence AllHold (silence_of W t outcome)
  all-by W t all (StepsTo next) is =
      changed W (current W t) _ all
      (holds-step T S AnyTree AnyEnd rules any-single run.program (view_of W t) (moment_of W t) next functions (all (current W t)) is)
  all-by W t all (Asks what tree) is =
      changed W (current W t) _ all
      (holds-answer T S AnyTree AnyEnd rules any-single (view_of W t) (answer_to W t what) (moment_of W t) (may-any (answer_to W t what)) (all (current W t)))
  all-by W t all (Occurs what tree) is = all
  all-by W t all (Ends number) is = all
  all-by W t all (Traps trap) is = tt
  all-by W t all (Limits limit) is = tt

  pub all-step : (t : ℕ) (W : World) → arrival W t ≡ Steps → AllHold W → AfterSilence AllHold (silent_step run W t)
  unfolding silent_step
  all-step t W steps all = all-by W t all (silent run.program (view_of W t) (moment_of W t)) refl

  -- ---- an event of the code

  pub holds-told : (W : World) (t : ℕ) → AllHold W → Holds (told W t).task
  holds-told W t all = holds-answer T S AnyTree AnyEnd rules any-single (view_of W t) (answer.Free true) (moment_of W t) tt (all (current W t))

  all-either : (W one other : World) (b : Bool) → AllHold one → AllHold other → AllHold (if b then one else other)
  all-either W one other true first second = first
  all-either W one other false first second = second

  all-met : (W : World) (t : ℕ) (what : Meeting) → AllHold W → AllHold (after_meeting_at W t what)
  all-met W t what all = all-either W (with_member_meeting W (current_region W t) (current_index W t) what) W (is_member W t) all all

  all-synced : (W : World) (t codeptr : ℕ) (which : SyncKind) (at : SyncStage) → AllHold W → AllHold (after_sync W t codeptr which at)
  all-synced W t codeptr which stage.RegionBegin all =
      all-either W (after_meeting_at W t (barrier_met codeptr which)) W (is_barrier which) (all-met W t (barrier_met codeptr which) all) all
  all-synced W t codeptr which stage.WaitEnd all =
      all-either W (with_barrier_passed W (current_region W t) (current_index W t)) W (is_barrier which) all all
  all-synced W t codeptr which other all = all

  module _ (W : World) (t : ℕ) (all : AllHold W) where
    between : (what : Point) (tree : Tree) → silent run.program (view_of W t) (told W t) ≡ Occurs what tree →
        AllHold (effect_of_point run W t (told W t) what)
    unfolding effect_of_point
    between (point.ParallelBegin codeptr requested) tree is = changed W (current W t) _ all (all (current W t))
    between (point.TaskCreate codeptr undeferred) tree is =
        added W (task_with (explicit_task run.program (view_of W t) (told W t)).task) all
        (holds-explicit T S AnyTree AnyEnd rules any-single run.program (view_of W t) (told W t) codeptr undeferred tree functions (holds-told W t all) is)
    between (point.ParallelEnd codeptr) tree is = all
    between (point.WorkBegin codeptr what) tree is = all-met W t (work_met codeptr what) all
    between (point.Sync codeptr which at) tree is = all-synced W t codeptr which at all
    between (point.MutexAcquired codeptr id which) tree is = all
    between (point.MutexReleased codeptr id which) tree is = all
    between (point.LockInit codeptr id) tree is = all
    between (point.LockDestroy codeptr id) tree is = all
    between what tree is = all

    all-point : (what : Point) (tree : Tree) → silent run.program (view_of W t) (told W t) ≡ Occurs what tree →
        AllHold (past_point W (effect_of_point run W t (told W t) what) t (told W t) what)
    all-point what tree is =
        changed (effect_of_point run W t (told W t) what) _ _ (between what tree is)
        ((holds-event T S AnyTree AnyEnd rules any-single run.program (view_of W t) (told W t) what (executes_point W t what) tree functions
        (holds-told W t all) is).0 (may-any-next what (settled_task (view_of W t) (told W t).task).todo))

    code-by : (next : World) (e : Event) (outcome : Outcome) → silent run.program (view_of W t) (told W t) ≡ outcome →
        going_by run W t (told W t) outcome ≡ Happens e next → AllHold next
    code-by next e (Occurs what tree) is happens =
        unless-goes (λ which next. AllHold next) (fault_of_point W t (told W t).task what) (event_of_point W t what) e
        (past_point W (effect_of_point run W t (told W t) what) t (told W t) what) next (λ fine. all-point what tree is) happens
    code-by next e (StepsTo step) is happens = cc
    code-by next e (Asks ask tree) is happens = cc
    code-by next e (Ends number) is happens = cc
    code-by next e (Traps trap) is happens = cc
    code-by next e (Limits limit) is happens = cc

    in-code : (next : World) (e : Event) → go_of_code run W t ≡ Happens e next → AllHold next
    unfolding go_of_code
    in-code next e happens = code-by next e (silent run.program (view_of W t) (told W t)) refl happens

  -- ---- an event beside all code

  all-started : (W : World) (k : ℕ) → AllHold W → AllHold (with_started_task W k)
  all-started W k all = all-either W W (record W { pool = _ }) (is_finished (pooled_at W k).condition) all all

  all-finished : (W : World) (k : ℕ) → AllHold W → AllHold (with_finished_task W k)
  all-finished W k all = all-either W (record W { pool = _ }) W (is_under_way (pooled_at W k).condition) all all

  all-taken : (W : World) (t k : ℕ) → AllHold W → AllHold (taken_up W t k)
  all-taken W t k all = changed W k (record (task_at W k) { thread = t }) all (all k)

  all-emptied : (W : World) (k : ℕ) → AllHold W → AllHold (without_code W k)
  all-emptied W k all = changed W k _ all (holds-blank T S AnyTree AnyEnd rules any-single)

  member-holds : (code : Code) → Holds code → Holds (member_code code)
  member-holds code holds = at-fork (has_forked code.todo)
    where
      at-fork : (b : Bool) → Holds (if b then member_task code else blank_task)
      at-fork true = holds-member T S AnyTree AnyEnd rules any-single code holds
      at-fork false = holds-blank T S AnyTree AnyEnd rules any-single

  all-beside : (W : World) (t : ℕ) (e : Event) → AllHold W → AllHold (effect_of W t e)
  unfolding effect_of
  all-beside W t event.InitialTaskBegin all = all-started (taken_up W t INITIAL_TASK) INITIAL_TASK (all-taken W t INITIAL_TASK all)
  all-beside W t event.InitialTaskEnd all = all-finished (without_current_task W t) INITIAL_TASK all
  all-beside W t (event.MemberBegin r k) all =
      let parent = (region_at W r).head.task in
      let code = member_code (task_at W parent).code in
      let fresh = task_made W parent r kind.Implicit code in
      all-taken (with_started_task fresh k) t k (all-started fresh k (added W (task_with code) all (member-holds (task_at W parent).code (all parent))))
  all-beside W t (event.MemberEnd r k) all = all-emptied (with_finished_task (without_current_task W t) k) k (all-finished (without_current_task W t) k all)
  all-beside W t (event.TaskBegin prior k) all = all-started (taken_up W t k) k (all-taken W t k all)
  all-beside W t (event.TaskEnd k) all = all-emptied (without_current_task W t) k all
  all-beside W t other all = all

  all-go : (W next : World) (t : ℕ) (e : Event) → AllHold W → GoOf run W t e next → AllHold next
  all-go W next t e all (OfCode comes happens) = in-code W t all next e happens
  all-go W next t e all (Beside meets happens) =
      unless-goes (λ which next. AllHold next) (fault_of W t e) e e (effect_of W t e) next (λ fine. all-beside W t e all) happens

  -- ---- a Back, and a word that is stored

  all-opened : (W : World) (t r : ℕ) → AllHold W → AllHold (with_members_invited W t r)
  all-opened W t r all = all-either W _ _ (is_outermost W r) all all

  all-readied : (W : World) (k : ℕ) → AllHold W → AllHold (with_ready_task W k)
  all-readied W k all = all-either W (record W { pool = _ }) W (is_fresh (pooled_at W k).condition) all all

  all-back : (W : World) (t : ℕ) (e : Event) → AllHold W → AllHold (at_back W t e)
  unfolding at_back
  all-back W t (event.ParallelBegin r requested codeptr) all = all-opened W t r all
  all-back W t (event.ParallelEnd r codeptr) all = changed W (current W t) _ all (all (current W t))
  all-back W t (event.TaskCreate task true codeptr) all = all
  all-back W t (event.TaskCreate task false codeptr) all = all-readied W task all
  all-back W t (event.TaskEnd task) all = all-finished W task all
  all-back W t (event.Sync which stage.WaitBegin codeptr) all = all-either W _ W (is_barrier which) all all
  all-back W t other all = all

  all-stored : (W : World) (place : Target) (word : ℕ) → AllHold W → AllHold (stored W place word)
  all-stored W (target.Thread t) word all = all
  all-stored W (target.Parallel r) word all = all
  all-stored W (target.Task j) word all = changed W j _ all (all j)

  -- ---- entries

  all-turn : (t : ℕ) (W : World) (came : TurnOutcome) → Turned run AllHold t W came → AllHold W
  all-turn t W (outcome.Happens e) from = all-go from.before W t e from.holds from.go
  all-turn t W outcome.Idle holds = holds
  all-turn t W outcome.Quiet holds = holds
  all-turn t W (outcome.Halts halt) holds = holds

  all-back_from : (X : State) (t : ℕ) (callback : Option Callback) → AllHold X.world → AllHold (back_from X t callback).world
  all-back_from X t None all = all
  all-back_from X t (Some callback) all = all-back X.world t callback.event all

  all-put_from : (X : State) (t : ℕ) (place : Target) (word : ℕ) (callback : Option Callback) → AllHold X.world →
      AllHold (put_from X t place word callback).world
  all-put_from X t place word None all = all
  all-put_from X t place word (Some callback) all = all-stored X.world place word all

  pub all-does : (X : State) (t : ℕ) (what : What) → AllHold X.world → AllHold (does run X t what).world
  all-does X t Go all =
      all-turn t (turn run X t).state.world (turn run X t).outcome (of-turn run t AllHold (λ W all. all-past W t all) (all-step t) X all)
  all-does X t (Put place word) all = all-put_from X t place word (pending_at X t) all
  all-does X t Back all = all-back_from X t (pending_at X t) all

  pub all-first : AllHold (first_world run)
  all-first = first-tasks run HoldsTask (holds-blank T S AnyTree AnyEnd rules any-single) (holds-main T S AnyTree AnyEnd rules any-single run.program functions)

  -- after these entries, and silent steps of a thread
  pub all-walk : (history : List Entry) (t steps : ℕ) → AllHold (walk run steps 0 (after run history) t).state.world
  all-walk history t steps =
      of-walk run t AllHold (λ W all. all-past W t all) (all-step t) steps 0 (after run history)
      (of-entries run (λ X. AllHold X.world) (λ X entry all. all-does X entry.thread entry.what all) (first run) history all-first)
