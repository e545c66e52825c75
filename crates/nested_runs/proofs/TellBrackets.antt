-- What is open on a thread is what the tasks on its stack show (rule 6).
use Rattle.std.proofs.Common.{ℕ, ◌≡◌, ◌<◌, ◌≤◌, ◌==◌, ◌&&◌, ◌||◌, ◌⊎◌, not, Bool, true, false, if◌then◌else◌, List, [], ◌∷◌, ◌++◌, map, drop, length, slice_index_or, refl, sym, ap, ap₂, ◌∙◌, subst, inl, inr, ⊎_elim, true≢false, arith}
use Rattle.std.specs.Prelude.{All, Some}
use Rattle.std.proofs.lemmas.Bool.{cases_eq, eq-eqb, ne_eqb}
use Rattle.std.proofs.lemmas.List.Elements.{All-head, All-tail}
use Rattle.c_model.specs.declared.point.SyncStage.TheVariants as stage
use Rattle.c_model.specs.Begin.{blank_task}
use Rattle.c_model.specs.Task.{Task as Code}
use Rattle.ompt_calls.specs.declared.event.EventRecord.{EventRecord}
use Rattle.c_brackets.specs.Effects.{HasNoFork}
use Rattle.c_brackets.specs.Opened.{Open, open_calls, open_items, open_task}
use Rattle.c_brackets.specs.Opened.Open.{Forks, Works, Masks, Syncs, Awaits}
use Rattle.task_pool.specs.declared.task.Condition.TheVariants as condition
use Rattle.task_pool.specs.declared.task.Task.{Task as PoolTask}
use Rattle.task_pool.specs.Tasks.{is_explicit, task_at as pool_task_at}
use Rattle.omp_model.specs.declared.limits.TheConstants.{INITIAL_TASK}
use Rattle.omp_model.specs.declared.parts.ThreadStage.TheVariants as thread_stage
use Rattle.omp_model.specs.declared.event.Endpoint.TheVariants.{Begin, End}
use Rattle.omp_model.specs.declared.event.Event.{Event}
use Rattle.omp_model.specs.declared.event.Event.TheVariants.{Dispatch, InitialTaskBegin, InitialTaskEnd, Masked, MemberBegin, MemberEnd, ParallelBegin, ParallelEnd, Sync, TaskBegin, TaskCreate, TaskEnd, ThreadBegin, ThreadEnd, Work}
use Rattle.omp_model.specs.State.{Run, Thread, World, first, first_world, pooled_at, task_at, thread_at}
use Rattle.omp_model.specs.Members.{current, is_explicit_task}
use Rattle.omp_model.specs.EventEffects.{sync_number}
use Rattle.omp_model.specs.Calls.{work_number}
use Rattle.omp_model.specs.Changes.{with_invitation}
use Rattle.omp_model.specs.Conditions.{Distinct, EventOrderly, has_started}
use Rattle.omp_model.specs.MadeWorld.{IsTaskOf}
use Rattle.omp_model.proofs.Touching.{come_to, forked_back, is_of_code, is_summoned, pooled_back, thread_after, thread_back}
use Rattle.omp_model.proofs.MadeEvents.{current-made}
use Rattle.omp_model.proofs.Gos.{current-kept}
use Rattle.nested_runs.proofs.Coming.{Comes, PicksTask, PicksUndeferred}
use Rattle.nested_runs.proofs.Effects.{EndsNewest, effect_of_event, opens_after}
use Rattle.nested_runs.proofs.Readings.{change_by}
use Rattle.nested_runs.proofs.Recorded.{Inside, inside, recorded}
use Rattle.nested_runs.proofs.Knows.{ComesBack, Goes, IsWholeRun, Knows, Stays}
use Rattle.trace_check.specs.declared.bracket.Bracket.{Bracket}
use Rattle.trace_check.specs.declared.bracket.Bracket.TheVariants.{Parallel, Implicit, Explicit, Masking, Syncing, Waiting}
use Rattle.trace_check.specs.declared.change.Change.TheVariants as change
use Rattle.trace_check.specs.Rules.{keeps_brackets, may_change}
use Rattle.trace_check.specs.Before.{current as current_task, is_just, opened}
use Rattle.trace_check.specs.Brackets.{changed, current_in, is_innermost, is_match}
use Rattle.nested_runs.proofs.Shown.{begun_as, bracket_of, opens_at, shown}
use Rattle.nested_runs.proofs.Standing.{Stand, stand_among}
use Rattle.nested_runs.proofs.Standing.Stand.{Free}
use Rattle.nested_runs.proofs.Touching.{Alike, AreCodes, ComesFree, Touches}
use Rattle.nested_runs.proofs.Known.{IsBusy, TellsBrackets, is_ending}
use Rattle.nested_runs.proofs.CallReadings.{change-is, opened-other, opened-own}
use Rattle.nested_runs.proofs.Codes.{main-open, no-fork}
use Rattle.nested_runs.proofs.FirstWorlds.{first-tasks, first-threads}
use Rattle.nested_runs.proofs.KeptTasks.{KeptTask, code-some, current-under_way, kept-either, kept-numbered, none-opens, none-stand, started-either, unstarted, unstarted-apart}
use Rattle.nested_runs.proofs.Showing.{ShownAlike, begins-shown, brackets-alike, change_shown, current-shown, current-told, effect-shown, ended-shown, innermost, newest-shown, stack-alike}
use Rattle.nested_runs.proofs.Stands.{stand-main}
use Rattle.nested_runs.proofs.TellThreads.{end-is}

-- the current task is the one that the newest bracket of a task began
pub shown-current : (W : World) (k : ℕ) (below : List ℕ) → current_in (shown W (k ∷ below)) ≡ Some k
shown-current W k below = current-shown W k below

pub current-known : (run : Run) (W : World) (I : Inside) (past : List EventRecord) (t : ℕ) → Knows run W I past → 1 ≤ current W t →
    current_task t past ≡ Some (current W t)
current-known run W I past t knows some = current-told W past t (thread_at W t).stack (knows.brackets.open_on t) some

-- at the start
blank-opens : open_task blank_task ≡ []
unfolding open_items open_calls
blank-opens = refl

pub brackets-first : (run : Run) → IsWholeRun run → TellsBrackets (first_world run) (inside (first run)) []
brackets-first run whole =
    record {
      open_on = λ t. first-threads run (λ thread. [] ≡ shown (first_world run) thread.stack) refl refl t;
      fresh = λ k not. first-tasks run (λ task. open_task task.code ≡ []) blank-opens (main-open run.program) k;
      unmoved = λ k not. first-tasks run (λ task. stand_among task.code.todo ≡ Free) refl (stand-main run.program) k;
    }

-- ---- after what is no event

-- all tasks show the same
alike-stays : (W after : World) (k : ℕ) → Alike W after → ShownAlike W after k
alike-stays W after k alike =
    record {
      numbered = record {
        brackets = brackets-alike W after k (ap (λ pool. (pool_task_at pool.tasks k).region) alike.world.pool) (inl (alike.world.forked k));
        explicit = ap (λ pool. is_explicit (pool_task_at pool.tasks k).kind) alike.world.pool;
      };
      opens = alike.opens k;
    }

still-free : (before after : Stand) → (after ≡ before) ⊎ ComesFree before after → before ≡ Free → after ≡ Free
still-free before after (inl same) free = same ∙ free
still-free before after (inr comes) free = comes.free

pub brackets-stays : (run : Run) (W after : World) (I J : Inside) (past : List EventRecord) → Stays run W after I J past → TellsBrackets after J past
brackets-stays run W after I J past stays =
    let alike = stays.alike in
    let known = stays.knows.brackets in
    let unstarted_before : (k : ℕ) → has_started (pooled_at after k).condition ≡ false → has_started (pooled_at W k).condition ≡ false =
    λ k not. ap (λ pool. has_started (pool_task_at pool.tasks k).condition) (sym alike.world.pool) ∙ not in
    record {
      open_on = λ t.
          known.open_on t ∙ sym (stack-alike W after (thread_at W t).stack (λ i d below. alike-stays W after _ alike))
          ∙ ap (shown after) (sym (alike.world.thread t).stack);
      fresh = λ k not. alike.opens k ∙ known.fresh k (unstarted_before k not);
      unmoved = λ k not. still-free _ _ (alike.stands k) (known.unmoved k (unstarted_before k not));
    }

-- ---- after the Go of an event

-- the tasks that were made before show the same, but for the current one at an event of its code
module _ (run : Run) (W after : World) (I : Inside) (past : List EventRecord) (t : ℕ) (e : Event) where
  alike-go : Knows run W I past → Comes W t e → Touches W after t e → (k : ℕ) → k < length W.tasks → (is_of_code e ≡ true → k ≡ current W t → ⊥) →
      ShownAlike W after k
  alike-go knows comes touches k below apart =
      record { numbered = kept-numbered run W after I past t e k knows comes touches below; opens = touches.opens k apart }

  -- those of another thread
  alike-others : Knows run W I past → Comes W t e → Touches W after t e → (u : ℕ) → (u ≡ t → ⊥) → All (ShownAlike W after) (thread_at W u).stack
  alike-others knows comes touches u other i d below =
      let k = slice_index_or (thread_at W u).stack i d in
      let under_way = knows.sound.orderly.stacked u i d below in
      alike-go knows comes touches k ((knows.sound.made.threads u).stacked i d below).made.below
      (λ of_code is. other (
      sym under_way.thread ∙ ap (λ j. (task_at W j).thread) is ∙ (current-under_way W t knows.sound.orderly (code-some W t e of_code comes)).thread))

  -- those of the thread itself, beside the code
  alike-own : Knows run W I past → is_of_code e ≡ false → Comes W t e → Touches W after t e → All (ShownAlike W after) (thread_at W t).stack
  alike-own knows beside comes touches i d below =
      alike-go knows comes touches _ ((knows.sound.made.threads t).stacked i d below).made.below (λ of_code is. true≢false (sym of_code ∙ beside))

  -- .. and at an event of the code, those below the current one
  alike-below : Knows run W I past → Comes W t e → Touches W after t e → (k : ℕ) (below : List ℕ) → (thread_at W t).stack ≡ k ∷ below →
      All (ShownAlike W after) below
  alike-below knows comes touches k below is i d within =
      let made = All-tail (IsTaskOf W t) k below (subst (All (IsTaskOf W t)) is (knows.sound.made.threads t).stacked) in
      let distinct = subst Distinct is (knows.sound.orderly.distinct t) in
      alike-go knows comes touches _ (made i d within).made.below (λ of_code same. distinct.0 i d within (same ∙ ap (λ stack. slice_index_or stack 0 0) is))

-- an event of the code changes what its effect changes
change-code : (W after : World) (t : ℕ) (e : Event) → is_of_code e ≡ true → Comes W t e → Touches W after t e →
    change_by after t e ≡ change_shown (bracket_of after (current after t)) (effect_of_event e)
change-code W after t InitialTaskBegin of_code comes touches = absurd (true≢false (sym of_code))
change-code W after t InitialTaskEnd of_code comes touches = absurd (true≢false (sym of_code))
change-code W after t (MemberBegin r k) of_code comes touches = absurd (true≢false (sym of_code))
change-code W after t (MemberEnd r k) of_code comes touches = absurd (true≢false (sym of_code))
change-code W after t (TaskBegin prior task) of_code comes touches = absurd (true≢false (sym of_code))
change-code W after t (TaskEnd task) of_code comes touches = absurd (true≢false (sym of_code))
change-code W after t (ParallelBegin r requested codeptr) of_code comes touches =
    let now = current-kept W after t (ParallelBegin r requested codeptr) of_code touches.world in
    let forked : (task_at after (current W t)).forked ≡ r = touches.world.forked (current W t) ∙ rw (eq-eqb (current W t) (current W t) refl) refl in
    ap (λ q. change.Opens (Parallel q)) (sym (ap (λ k. (task_at after k).forked) now ∙ forked))
change-code W after t (ParallelEnd r codeptr) of_code comes touches =
    let now = current-kept W after t (ParallelEnd r codeptr) of_code touches.world in
    let forked : (task_at after (current W t)).forked ≡ r = touches.world.forked (current W t) ∙ sym comes.1.region in
    ap (λ q. change.Closes (Parallel q)) (sym (ap (λ k. (task_at after k).forked) now ∙ forked))
change-code W after t (Work Begin which count codeptr) of_code comes touches = refl
change-code W after t (Work End which count codeptr) of_code comes touches = refl
change-code W after t (Masked Begin codeptr) of_code comes touches = refl
change-code W after t (Masked End codeptr) of_code comes touches = refl
change-code W after t (Sync which stage.RegionBegin codeptr) of_code comes touches = refl
change-code W after t (Sync which stage.WaitBegin codeptr) of_code comes touches = refl
change-code W after t (Sync which stage.WaitEnd codeptr) of_code comes touches = refl
change-code W after t (Sync which stage.RegionEnd codeptr) of_code comes touches = refl
change-code W after t e of_code comes touches = refl

-- what ends was the newest
ends-newest : (W : World) (t : ℕ) (e : Event) → is_of_code e ≡ true → Comes W t e → EndsNewest (effect_of_event e) (opens_at W (current W t))
ends-newest W t ThreadBegin of_code comes = absurd (true≢false (sym of_code))
ends-newest W t ThreadEnd of_code comes = absurd (true≢false (sym of_code))
ends-newest W t InitialTaskBegin of_code comes = absurd (true≢false (sym of_code))
ends-newest W t InitialTaskEnd of_code comes = absurd (true≢false (sym of_code))
ends-newest W t (MemberBegin r k) of_code comes = absurd (true≢false (sym of_code))
ends-newest W t (MemberEnd r k) of_code comes = absurd (true≢false (sym of_code))
ends-newest W t (TaskBegin prior task) of_code comes = absurd (true≢false (sym of_code))
ends-newest W t (TaskEnd task) of_code comes = absurd (true≢false (sym of_code))
ends-newest W t (Dispatch share) of_code comes = absurd (true≢false (sym of_code))
ends-newest W t e of_code comes = comes.0.ends

-- so the brackets change as what the current task shows
code-shown : (run : Run) (W after : World) (I : Inside) (past : List EventRecord) (t : ℕ) (e : Event) → Knows run W I past → is_of_code e ≡ true →
    Comes W t e → Touches W after t e →
    (stack : List ℕ) → (thread_at W t).stack ≡ stack → 1 ≤ slice_index_or stack 0 0 → changed (change_by after t e) (shown W stack) ≡ shown after stack
code-shown run W after I past t e knows of_code comes touches [] is some = absurd (omega (arith, some))
code-shown run W after I past t e knows of_code comes touches (k ∷ below) is some =
    let now : current W t ≡ k = ap (λ stack. slice_index_or stack 0 0) is in
    let made = (current-made W t knows.sound.made (code-some W t e of_code comes)).made.below in
    let numbered = kept-numbered run W after I past t e k knows comes touches (subst (λ j. j < length W.tasks) now made) in
    let rest = begun_as (is_explicit_task after k) below k ∷ shown after below in
    let alike = stack-alike W after below (alike-below run W after I past t e knows comes touches k below is) in
    let before : map (bracket_of after k) (opens_at W k) ++ rest ≡ shown W (k ∷ below) =
    ap₂ ◌++◌ numbered.brackets (ap₂ (λ explicit older. begun_as explicit below k ∷ older) numbered.explicit alike) in
    let opens : opens_at after k ≡ opens_after (effect_of_event e) (opens_at W k) =
    subst (λ j. opens_at after j ≡ opens_after (effect_of_event e) (opens_at W j)) now (touches.opens_own of_code) in
    let changes : change_by after t e ≡ change_shown (bracket_of after k) (effect_of_event e) =
    change-code W after t e of_code comes touches
    ∙ ap (λ j. change_shown (bracket_of after j) (effect_of_event e)) (current-kept W after t e of_code touches.world ∙ now) in
    let ends : EndsNewest (effect_of_event e) (opens_at W k) =
    subst (λ j. EndsNewest (effect_of_event e) (opens_at W j)) now (ends-newest W t e of_code comes) in
    ap₂ changed changes (sym before) ∙ effect-shown (bracket_of after k) (effect_of_event e) (opens_at W k) rest ends
    ∙ sym (ap (λ all. map (bracket_of after k) all ++ rest) opens)

-- a task begins that has nothing open yet
initial-begins : (run : Run) (W : World) (I : Inside) (past : List EventRecord) → Knows run W I past →
    (pooled_at W INITIAL_TASK).condition ≡ condition.Made → opens_at W INITIAL_TASK ≡ []
initial-begins run W I past knows made = knows.brackets.fresh INITIAL_TASK (ap has_started made)

pub task-unstarted : (run : Run) (W : World) (I : Inside) (past : List EventRecord) (t task : ℕ) → Knows run W I past → 1 ≤ task →
    PicksTask W t task ⊎ PicksUndeferred W t task →
    has_started (pooled_at W task).condition ≡ false
task-unstarted run W I past t task knows some (inl picks) = ap has_started picks.ready
task-unstarted run W I past t task knows some (inr picks) =
    let start = knows.sound.orderly.starts t (subst (λ k. 1 ≤ k) (sym picks.task) some) in
    ap (λ k. has_started (pooled_at W k).condition) (sym picks.task) ∙ ap has_started start.made

pub task-explicit : (run : Run) (W : World) (I : Inside) (past : List EventRecord) (t task : ℕ) → Knows run W I past → 1 ≤ task →
    PicksTask W t task ⊎ PicksUndeferred W t task →
    is_explicit_task W task ≡ true
task-explicit run W I past t task knows some (inl picks) = knows.tasks.ready task picks.ready
task-explicit run W I past t task knows some (inr picks) =
    let start = knows.sound.orderly.starts t (subst (λ k. 1 ≤ k) (sym picks.task) some) in
    ap (λ k. is_explicit_task W k) (sym picks.task) ∙ start.explicit

-- .. and the thread has a task then
pub task-prior : (run : Run) (W : World) (I : Inside) (past : List EventRecord) (t task : ℕ) → Knows run W I past → 1 ≤ task →
    PicksTask W t task ⊎ PicksUndeferred W t task →
    1 ≤ current W t
task-prior run W I past t task knows some (inl picks) = picks.within.some
task-prior run W I past t task knows some (inr picks) = (knows.seats.detained t (subst (λ k. 1 ≤ k) (sym picks.task) some)).some

-- the stack behind the event
ended-after : (W after : World) (stack : List ℕ) → shown after stack ≡ shown W stack → 1 ≤ slice_index_or stack 0 0 →
    opens_at after (slice_index_or stack 0 0) ≡ [] →
    drop 1 (shown W stack) ≡ shown after (drop 1 stack)
ended-after W after stack alike some none = ap (drop 1) (sym alike ∙ ended-shown after stack some none)

own-shown : (run : Run) (W after : World) (I : Inside) (past : List EventRecord) (t : ℕ) (e : Event) → Knows run W I past → Comes W t e → Touches W after t e →
    changed (change_by after t e) (shown W (thread_at W t).stack) ≡ shown after (thread_after e (thread_at W t)).stack
own-shown run W after I past t ThreadBegin knows comes touches =
    sym (stack-alike W after (thread_at W t).stack (alike-own run W after I past t ThreadBegin knows refl comes touches))
own-shown run W after I past t ThreadEnd knows comes touches =
    sym (stack-alike W after (thread_at W t).stack (alike-own run W after I past t ThreadEnd knows refl comes touches))
own-shown run W after I past t (Dispatch share) knows comes touches =
    sym (stack-alike W after (thread_at W t).stack (alike-own run W after I past t (Dispatch share) knows refl comes touches))
own-shown run W after I past t InitialTaskBegin knows comes touches =
    let alike = stack-alike W after (thread_at W t).stack (alike-own run W after I past t InitialTaskBegin knows refl comes touches) in
    let explicit = (kept-numbered run W after I past t InitialTaskBegin INITIAL_TASK knows comes touches knows.sound.made.initial.below).explicit in
    let opens = touches.opens INITIAL_TASK (λ of_code is. true≢false (sym of_code)) ∙ initial-begins run W I past knows comes.made in
    sym (begins-shown W after INITIAL_TASK (thread_at W t).stack false opens (explicit ∙ ap is_explicit knows.sound.orderly.initial) alike)
own-shown run W after I past t (MemberBegin r k) knows comes touches =
    let alike = stack-alike W after (thread_at W t).stack (alike-own run W after I past t (MemberBegin r k) knows refl comes touches) in
    let explicit : is_explicit_task after k ≡ false = ap (λ (x : PoolTask). is_explicit x.kind) (touches.world.pooled k) ∙ rw (eq-eqb k k refl) refl in
    let opens = touches.opens k (λ of_code is. true≢false (sym of_code)) ∙ none-opens W k comes.task in
    sym (begins-shown W after k (thread_at W t).stack false opens explicit alike)
own-shown run W after I past t (TaskBegin prior task) knows comes touches =
    let alike = stack-alike W after (thread_at W t).stack (alike-own run W after I past t (TaskBegin prior task) knows refl comes touches) in
    let same : is_explicit_task after task ≡ is_explicit_task W task =
    ap (λ (x : PoolTask). is_explicit x.kind) (touches.world.pooled task) ∙ rw (eq-eqb task task refl) refl in
    let explicit = same ∙ task-explicit run W I past t task knows comes.some comes.picks in
    let opens =
    touches.opens task (λ of_code is. true≢false (sym of_code))
    ∙ knows.brackets.fresh task (task-unstarted run W I past t task knows comes.some comes.picks) in
    ap (λ before. Explicit before task ∷ shown W (thread_at W t).stack) comes.before
    ∙ sym (begins-shown W after task (thread_at W t).stack true opens explicit alike)
own-shown run W after I past t InitialTaskEnd knows comes touches =
    let alike = stack-alike W after (thread_at W t).stack (alike-own run W after I past t InitialTaskEnd knows refl comes touches) in
    let opens = touches.opens (current W t) (λ of_code is. true≢false (sym of_code)) ∙ ap (opens_at W) comes.task ∙ comes.closed in
    ended-after W after (thread_at W t).stack alike comes.within.some opens
own-shown run W after I past t (MemberEnd r k) knows comes touches =
    let alike = stack-alike W after (thread_at W t).stack (alike-own run W after I past t (MemberEnd r k) knows refl comes touches) in
    let opens = touches.opens (current W t) (λ of_code is. true≢false (sym of_code)) ∙ ap (opens_at W) (sym comes.task) ∙ comes.closed in
    ended-after W after (thread_at W t).stack alike comes.within.some opens
own-shown run W after I past t (TaskEnd task) knows comes touches =
    let alike = stack-alike W after (thread_at W t).stack (alike-own run W after I past t (TaskEnd task) knows refl comes touches) in
    let opens = touches.opens (current W t) (λ of_code is. true≢false (sym of_code)) ∙ ap (opens_at W) (sym comes.task) ∙ comes.closed in
    ended-after W after (thread_at W t).stack alike comes.within.some opens
own-shown run W after I past t e knows comes touches = code-shown run W after I past t e knows refl comes touches (thread_at W t).stack refl comes.0.within.some

pub brackets-go : (run : Run) (W after : World) (I J : Inside) (past : List EventRecord) (t position : ℕ) (e : Event) → Goes run W after I J past t e →
    TellsBrackets after J (recorded position t after e ∷ past)
brackets-go run W after I J past t position e goes =
    let knows = goes.knows in
    let known = knows.brackets in
    let touches = goes.touches in
    let own : opened t (recorded position t after e ∷ past) ≡ shown after (thread_at after t).stack =
    opened-own position t after e past ∙ ap (changed (change_by after t e)) (known.open_on t) ∙ own-shown run W after I past t e knows goes.comes touches
    ∙ ap (λ (x : Thread). shown after x.stack) (sym touches.world.own) in
    let others : (u : ℕ) → (u ≡ t → ⊥) → opened u (recorded position t after e ∷ past) ≡ shown after (thread_at after u).stack = λ u other.
    opened-other position t after e past u other ∙ known.open_on u
    ∙ sym (stack-alike W after (thread_at W u).stack (alike-others run W after I past t e knows goes.comes touches u other))
    ∙ ap (λ (x : Thread). shown after x.stack) (sym (touches.world.others u other)) in
    let before : (k : ℕ) → has_started (pooled_at after k).condition ≡ false → (has_started (pooled_at W k).condition ≡ false) ⊎ (k ≡ length W.tasks) = λ k not.
    unstarted W t e k goes.comes (sym (ap (λ (x : PoolTask). has_started x.condition) (touches.world.pooled k)) ∙ not) in
    let apart : (k : ℕ) → (has_started (pooled_at W k).condition ≡ false) ⊎ (k ≡ length W.tasks) → is_of_code e ≡ true → k ≡ current W t → ⊥ =
    λ k not of_code is.
    unstarted-apart W t k knows.sound.made knows.sound.orderly (code-some W t e of_code goes.comes) not is in
    record {
      open_on = λ u. elim (cases_eq u t) [
        | inl is ↦ subst (λ v. opened v (recorded position t after e ∷ past) ≡ shown after (thread_at after v).stack) (sym is) own
        | inr other ↦ others u other
      ];
      fresh = λ k not. touches.opens k (apart k (before k not)) ∙ ⊎_elim (known.fresh k) (none-opens W k) (before k not);
      unmoved = λ k not. touches.stands k (apart k (before k not)) ∙ ⊎_elim (known.unmoved k) (none-stand W k) (before k not);
    }

-- ---- after its Back

-- stacks are left, and of a task that which thread it is on and how it came about
stack-either : (which : Bool) (one other : Thread) → one.stack ≡ other.stack → (if which then one else other).stack ≡ other.stack
stack-either true one other is = is
stack-either false one other is = refl

pub back-stack : (W : World) (t : ℕ) (e : Event) (u : ℕ) → (thread_back W t e u).stack ≡ (thread_at W u).stack
back-stack W t ThreadEnd u = stack-either (u == t) (record (thread_at W u) { stage = thread_stage.Ended }) (thread_at W u) refl
back-stack W t (ParallelBegin r requested codeptr) u = stack-either (is_summoned W t r u) (with_invitation r (thread_at W u)) (thread_at W u) refl
back-stack W t (TaskCreate task true codeptr) u = stack-either (u == t) (record (thread_at W u) { undeferred = task }) (thread_at W u) refl
back-stack W t (TaskCreate task false codeptr) u = refl
back-stack W t e u = refl

pub back-kept : (W : World) (e : Event) (k : ℕ) → KeptTask (pooled_back W e k) (pooled_at W k)
back-kept W (TaskCreate task false codeptr) k =
    kept-either (k == task) (come_to (pooled_at W k) condition.Ready) (pooled_at W k) (record { parent = refl; region = refl; kind = refl })
back-kept W (TaskCreate task true codeptr) k = record { parent = refl; region = refl; kind = refl }
back-kept W (TaskEnd task) k =
    kept-either (k == task) (come_to (pooled_at W k) condition.Finished) (pooled_at W k) (record { parent = refl; region = refl; kind = refl })
back-kept W e k = record { parent = refl; region = refl; kind = refl }

-- the region that a task had forked is over, and its end isn't what comes next
back-forked : (W : World) (t : ℕ) (e : Event) (k : ℕ) → AreCodes W → IsBusy W t (Some e) →
    (forked_back W t e k ≡ (task_at W k).forked) ⊎ HasNoFork (opens_at W k)
back-forked W t (ParallelEnd r codeptr) k codes busy =
    elim (cases_eq k (current W t)) [
      | inl is ↦ inr (subst (λ j. HasNoFork (opens_at W j)) (sym is) (no-fork W (current W t) codes busy.stand))
      | inr other ↦ inl (rw (ne_eqb k (current W t) other) refl)
    ]
back-forked W t e k codes busy = inl refl

forked-then : (now back before : ℕ) (opens : List Open) → now ≡ back → (back ≡ before) ⊎ HasNoFork opens → (now ≡ before) ⊎ HasNoFork opens
forked-then now back before opens is (inl same) = inl (is ∙ same)
forked-then now back before opens is (inr none) = inr none

-- a task that hasn't started hadn't
pub unstarted-back : (W : World) (t : ℕ) (e : Event) (k : ℕ) → EventOrderly W t e → has_started (pooled_back W e k).condition ≡ false →
    has_started (pooled_at W k).condition ≡ false
unstarted-back W t (TaskCreate task false codeptr) k orderly not =
    elim (cases_eq k task) [
      | inl is ↦ ap (λ j. has_started (pooled_at W j).condition) is ∙ ap has_started orderly.task.made
      | inr other ↦ sym (rw (ne_eqb k task other) refl) ∙ not
    ]
unstarted-back W t (TaskCreate task true codeptr) k orderly not = not
unstarted-back W t (TaskEnd task) k orderly not = started-either (k == task) (come_to (pooled_at W k) condition.Finished) (pooled_at W k) refl not
unstarted-back W t e k orderly not = not

pub brackets-back : (run : Run) (W after : World) (I J : Inside) (past : List EventRecord) (t : ℕ) (e : Event) → ComesBack run W after I J past t e →
    TellsBrackets after J past
brackets-back run W after I J past t e back =
    let returns = back.returns in
    let known = back.knows.brackets in
    let busy : IsBusy W t (Some e) = subst (IsBusy W t) back.within (back.knows.seats.busy t) in
    let alike : (k : ℕ) → ShownAlike W after k = λ k.
    let kept = back-kept W e k in
    record {
      numbered = record {
        brackets =
            brackets-alike W after k (ap (λ (x : PoolTask). x.region) (returns.pooled k) ∙ kept.region)
            (forked-then _ _ _ (opens_at W k) (returns.forked k) (back-forked W t e k back.knows.codes busy));
        explicit = ap (λ (x : PoolTask). is_explicit x.kind) (returns.pooled k) ∙ ap is_explicit kept.kind;
      };
      opens = ap open_task (returns.code k);
    } in
    let orderly = (back.knows.sound.events t e back.within).orderly in
    let before : (k : ℕ) → has_started (pooled_at after k).condition ≡ false → has_started (pooled_at W k).condition ≡ false = λ k not.
    unstarted-back W t e k orderly (sym (ap (λ (x : PoolTask). has_started x.condition) (returns.pooled k)) ∙ not) in
    record {
      open_on = λ u.
          known.open_on u ∙ sym (stack-alike W after (thread_at W u).stack (λ i d below. alike _))
          ∙ ap (shown after) (sym (ap (λ (x : Thread). x.stack) (returns.thread u) ∙ back-stack W t e u));
      fresh = λ k not. ap open_task (returns.code k) ∙ known.fresh k (before k not);
      unmoved = λ k not. ap (λ (code : Code). stand_among code.todo) (returns.code k) ∙ known.unmoved k (before k not);
    }

-- ---- rule 6

-- what ends is what the first task of the stack has open as the newest
newest-innermost : (W : World) (past : List EventRecord) (t : ℕ) (one : Open) (ended : Bracket) → opened t past ≡ shown W (thread_at W t).stack →
    1 ≤ current W t →
    (older : List Open) × (opens_at W (current W t) ≡ one ∷ older) → is_match (bracket_of W (current W t) one) ended ≡ true →
    is_innermost (opened t past) ended ≡ true
newest-innermost W past t one ended known some newest match =
    let there = newest-shown W (thread_at W t).stack one newest.0 some newest.1 in
    innermost (opened t past) (bracket_of W (current W t) one) ended there.0 (known ∙ there.1) match

-- .. or the task itself
begun-innermost : (W : World) (past : List EventRecord) (t : ℕ) (ended : Bracket) → opened t past ≡ shown W (thread_at W t).stack → 1 ≤ current W t →
    opens_at W (current W t) ≡ [] → is_match (begun_as (is_explicit_task W (current W t)) (drop 1 (thread_at W t).stack) (current W t)) ended ≡ true →
    is_innermost (opened t past) ended ≡ true
begun-innermost W past t ended known some none match =
    innermost (opened t past) _ ended _ (known ∙ ended-shown W (thread_at W t).stack some none) match

both-true : (a b : Bool) → a ≡ true → b ≡ true → (a && b) ≡ true
both-true a b one other = ap₂ ◌&&◌ one other

-- what is entered is entered by the current task, and what ends is the innermost
may-change : (run : Run) (W after : World) (I : Inside) (past : List EventRecord) (t : ℕ) (e : Event) → Knows run W I past → Comes W t e → Touches W after t e →
    may_change past t (change_by after t e) ≡ true
may-change run W after I past t (TaskBegin prior task) knows comes touches =
    let some = task-prior run W I past t task knows comes.some comes.picks in
    ap (is_just prior) (current-known run W I past t knows some) ∙ eq-eqb (current W t) prior (sym comes.before)
may-change run W after I past t InitialTaskEnd knows comes touches =
    let implicit : is_explicit_task W (current W t) ≡ false = ap (is_explicit_task W) comes.task ∙ ap is_explicit knows.sound.orderly.initial in
    begun-innermost W past t (Implicit INITIAL_TASK) (knows.brackets.open_on t) comes.within.some (ap (opens_at W) comes.task ∙ comes.closed)
    (rw (implicit, comes.task) refl)
may-change run W after I past t (MemberEnd r k) knows comes touches =
    let implicit : is_explicit_task W (current W t) ≡ false = ap (is_explicit_task W) (sym comes.task) ∙ ap is_explicit comes.kind in
    begun-innermost W past t (Implicit k) (knows.brackets.open_on t) comes.within.some (ap (opens_at W) (sym comes.task) ∙ comes.closed)
    (rw implicit (eq-eqb (current W t) k (sym comes.task)))
may-change run W after I past t (TaskEnd task) knows comes touches =
    let explicit : is_explicit_task W (current W t) ≡ true = ap (is_explicit_task W) (sym comes.task) ∙ comes.explicit in
    let now : current after t ≡ slice_index_or (drop 1 (thread_at W t).stack) 0 0 = ap (λ (x : Thread). slice_index_or x.stack 0 0) touches.world.own in
    begun-innermost W past t (Explicit (current after t) task) (knows.brackets.open_on t) comes.within.some (ap (opens_at W) (sym comes.task) ∙ comes.closed)
    (rw explicit (both-true _ _ (eq-eqb _ _ (sym now)) (eq-eqb (current W t) task (sym comes.task))))
may-change run W after I past t (ParallelEnd r codeptr) knows comes touches =
    newest-innermost W past t Forks (Parallel r) (knows.brackets.open_on t) comes.0.within.some comes.0.ends (eq-eqb _ r (sym comes.1.region))
may-change run W after I past t (Work Begin which count codeptr) knows comes touches =
    ap (is_just (current after t)) (current-known run W I past t knows comes.0.within.some)
    ∙ eq-eqb _ _ (sym (current-kept W after t (Work Begin which count codeptr) refl touches.world))
may-change run W after I past t (Work End which count codeptr) knows comes touches =
    newest-innermost W past t (Works which count) _ (knows.brackets.open_on t) comes.0.within.some comes.0.ends
    (both-true _ _ (eq-eqb _ _ (sym (current-kept W after t (Work End which count codeptr) refl touches.world))) (eq-eqb (work_number which) _ refl))
may-change run W after I past t (Masked Begin codeptr) knows comes touches =
    ap (is_just (current after t)) (current-known run W I past t knows comes.0.within.some)
    ∙ eq-eqb _ _ (sym (current-kept W after t (Masked Begin codeptr) refl touches.world))
may-change run W after I past t (Masked End codeptr) knows comes touches =
    newest-innermost W past t Masks (Masking (current after t)) (knows.brackets.open_on t) comes.0.within.some comes.0.ends
    (eq-eqb _ _ (sym (current-kept W after t (Masked End codeptr) refl touches.world)))
may-change run W after I past t (Sync which stage.RegionBegin codeptr) knows comes touches =
    ap (is_just (current after t)) (current-known run W I past t knows comes.0.within.some)
    ∙ eq-eqb _ _ (sym (current-kept W after t (Sync which stage.RegionBegin codeptr) refl touches.world))
may-change run W after I past t (Sync which stage.WaitBegin codeptr) knows comes touches =
    ap (is_just (current after t)) (current-known run W I past t knows comes.0.within.some)
    ∙ eq-eqb _ _ (sym (current-kept W after t (Sync which stage.WaitBegin codeptr) refl touches.world))
may-change run W after I past t (Sync which stage.WaitEnd codeptr) knows comes touches =
    newest-innermost W past t (Awaits which) (Waiting (current after t) (sync_number which)) (knows.brackets.open_on t) comes.0.within.some comes.0.ends
    (both-true _ _ (eq-eqb _ _ (sym (current-kept W after t (Sync which stage.WaitEnd codeptr) refl touches.world))) (eq-eqb (sync_number which) _ refl))
may-change run W after I past t (Sync which stage.RegionEnd codeptr) knows comes touches =
    newest-innermost W past t (Syncs which) (Syncing (current after t) (sync_number which)) (knows.brackets.open_on t) comes.0.within.some comes.0.ends
    (both-true _ _ (eq-eqb _ _ (sym (current-kept W after t (Sync which stage.RegionEnd codeptr) refl touches.world))) (eq-eqb (sync_number which) _ refl))
may-change run W after I past t e knows comes touches = refl

-- a thread ends with no task
no-stack : (W : World) (stack : List ℕ) → All (λ (k : ℕ). 1 ≤ k) stack → slice_index_or stack 0 0 ≡ 0 → stack ≡ []
no-stack W [] some none = refl
no-stack W (k ∷ below) some none = let one = All-head (λ (j : ℕ). 1 ≤ j) k below some in absurd (omega (arith, one, none))

ends-bare : (run : Run) (W : World) (I : Inside) (past : List EventRecord) (t : ℕ) (e : Event) → Knows run W I past → Comes W t e →
    (not (is_ending (Some e)) || (length (opened t past) == 0)) ≡ true
ends-bare run W I past t ThreadEnd knows comes =
    let stack : (thread_at W t).stack ≡ [] =
    no-stack W (thread_at W t).stack (λ i d below. ((knows.sound.made.threads t).stacked i d below).made.some) comes.none in
    ap (λ (bs : List Bracket). length bs == 0) (knows.brackets.open_on t ∙ ap (shown W) stack)
ends-bare run W I past t e knows comes = refl

pub keeps-brackets : (run : Run) (W after : World) (I J : Inside) (past : List EventRecord) (t position : ℕ) (e : Event) → Goes run W after I J past t e →
    keeps_brackets past t (recorded position t after e).call ≡ true
keeps-brackets run W after I J past t position e goes =
    both-true _ _ (ap (may_change past t) (change-is after t e) ∙ may-change run W after I past t e goes.knows goes.comes goes.touches)
    (ap (λ ending. not ending || (length (opened t past) == 0)) (end-is after t e) ∙ ends-bare run W I past t e goes.knows goes.comes)
