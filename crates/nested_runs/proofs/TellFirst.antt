-- The first events of thread 0 (rule 5).
use Rattle.std.proofs.Common.{ℕ, zero, suc, ◌-◌, ◌≡◌, ◌≢◌, ◌≤◌, ◌==◌, ◌&&◌, ◌||◌, not, Bool, true, false, if◌then◌else◌, List, [], ◌∷◌, slice_index_or, refl, sym, ap, ap₂, ◌∙◌, subst, inl, inr, ⊎_elim, true≢false, pos_of_ne-zero, arith}
use Rattle.std.specs.Prelude.{Option, Some, None}
use Rattle.std.proofs.lemmas.Bool.{cases_eq, eq-eqb, eqb-true, ne_eqb}
use Rattle.c_model.specs.declared.point.SyncStage.TheVariants as stage
use Rattle.ompt_calls.specs.declared.event.EventRecord.{EventRecord}
use Rattle.task_pool.specs.declared.task.Condition.{Condition}
use Rattle.task_pool.specs.declared.task.Condition.TheVariants as condition
use Rattle.task_pool.specs.declared.task.Task.{Task as PoolTask}
use Rattle.task_pool.specs.Tasks.{is_explicit, task_at as pool_task_at}
use Rattle.omp_model.specs.declared.limits.TheConstants.{INITIAL_TASK}
use Rattle.omp_model.specs.declared.parts.ThreadStage.{ThreadStage}
use Rattle.omp_model.specs.declared.parts.ThreadStage.TheVariants as thread_stage
use Rattle.omp_model.specs.declared.event.Event.{Event}
use Rattle.omp_model.specs.declared.event.Event.TheVariants.{Dispatch, InitialTaskBegin, InitialTaskEnd, MemberBegin, MemberEnd, ParallelBegin, Sync, TaskBegin, TaskCreate, TaskEnd, ThreadBegin, ThreadEnd}
use Rattle.omp_model.specs.declared.event.Share.{Share}
use Rattle.omp_model.specs.declared.event.Share.TheVariants.{Chunk, Section}
use Rattle.omp_model.specs.State.{Run, Thread, World, first, first_world, pooled_at, thread_at, unmade}
use Rattle.omp_model.specs.Members.{current}
use Rattle.omp_model.specs.Changes.{stage_once_made, with_invitation}
use Rattle.omp_model.specs.Calls.{call_of}
use Rattle.omp_model.specs.Conditions.{EventOrderly, has_started}
use Rattle.omp_model.proofs.Touching.{come_to, is_summoned, pooled_after, pooled_back, thread_back}
use Rattle.nested_runs.proofs.Coming.{Comes}
use Rattle.nested_runs.proofs.Recorded.{Enters, Inside, inside, recorded}
use Rattle.nested_runs.proofs.Knows.{ComesBack, Goes, IsWholeRun, Knows, Stays}
use Rattle.nested_runs.proofs.Touching.{MayTake, Touches}
use Rattle.trace_check.specs.Rules.{begins_initial, is_initial}
use Rattle.trace_check.specs.Before.{events_of}
use Rattle.nested_runs.proofs.Known.{IsEarly, IsFirstEvent, TellsFirst, TellsThread, is_begun, is_ending, is_over}
use Rattle.nested_runs.proofs.CallReadings.{events-other, events-own}
use Rattle.nested_runs.proofs.FirstWorlds.{first-inside, first-threads, replicated}
use Rattle.nested_runs.proofs.KeptTasks.{unstarted}
use Rattle.nested_runs.proofs.TellBrackets.{task-unstarted, unstarted-back}
use Rattle.nested_runs.proofs.TellThreads.{back-stage, comes-stage, goes-stage, stage_before}

-- ---- how far the initial task has come

-- it was only made where it hasn't started, since it is never ready
only-made : (now : Condition) → has_started now ≡ false → now ≢ condition.Ready → now ≡ condition.Made
only-made condition.Made not unready = refl
only-made condition.Ready not unready = absurd (unready refl)
only-made condition.Started not unready = absurd (true≢false not)
only-made condition.Finished not unready = absurd (true≢false not)

-- of two tasks that aren't ready, or are finished
unready-either : (which : Bool) (one other : PoolTask) → one.condition ≢ condition.Ready → other.condition ≢ condition.Ready →
    (if which then one else other).condition ≢ condition.Ready
unready-either true one other first second = first
unready-either false one other first second = second

finished-either : (which : Bool) (one other : PoolTask) → one.condition ≡ condition.Finished → other.condition ≡ condition.Finished →
    (if which then one else other).condition ≡ condition.Finished
finished-either true one other first second = first
finished-either false one other first second = second

started-unready : condition.Started ≢ condition.Ready
started-unready is = cc

finished-unready : condition.Finished ≢ condition.Ready
finished-unready is = cc

made-unready : condition.Made ≢ condition.Ready
made-unready is = cc

-- the Go of an event makes no task ready
go-unready : (W : World) (t : ℕ) (e : Event) (k : ℕ) → (pooled_at W k).condition ≢ condition.Ready → (pooled_after W t e k).condition ≢ condition.Ready
go-unready W t InitialTaskBegin k unready =
    unready-either (k == INITIAL_TASK) (come_to (pooled_at W k) condition.Started) (pooled_at W k) started-unready unready
go-unready W t InitialTaskEnd k unready =
    unready-either (k == INITIAL_TASK) (come_to (pooled_at W k) condition.Finished) (pooled_at W k) finished-unready unready
go-unready W t (MemberBegin r task) k unready = unready-either (k == task) _ (pooled_at W k) started-unready unready
go-unready W t (MemberEnd r task) k unready = unready-either (k == task) (come_to (pooled_at W k) condition.Finished) (pooled_at W k) finished-unready unready
go-unready W t (TaskCreate task undeferred codeptr) k unready = unready-either (k == task) _ (pooled_at W k) made-unready unready
go-unready W t (TaskBegin prior task) k unready = unready-either (k == task) (come_to (pooled_at W k) condition.Started) (pooled_at W k) started-unready unready
go-unready W t e k unready = unready

-- the initial task stays finished
go-finished : (run : Run) (W : World) (I : Inside) (past : List EventRecord) (t : ℕ) (e : Event) → Knows run W I past → Comes W t e →
    (pooled_at W INITIAL_TASK).condition ≡ condition.Finished → (pooled_after W t e INITIAL_TASK).condition ≡ condition.Finished
go-finished run W I past t InitialTaskBegin knows comes finished = let both = sym comes.made ∙ finished in cc
go-finished run W I past t InitialTaskEnd knows comes finished = refl
go-finished run W I past t (MemberBegin r task) knows comes finished =
    let below = knows.sound.made.initial.below in let next = comes.task in rw (ne_eqb INITIAL_TASK task (λ is. omega (arith, is, below, next))) finished
go-finished run W I past t (MemberEnd r task) knows comes finished =
    finished-either (INITIAL_TASK == task) (come_to (pooled_at W INITIAL_TASK) condition.Finished) (pooled_at W INITIAL_TASK) refl finished
go-finished run W I past t (TaskCreate task undeferred codeptr) knows comes finished =
    let below = knows.sound.made.initial.below in let next = comes.1 in rw (ne_eqb INITIAL_TASK task (λ is. omega (arith, is, below, next))) finished
go-finished run W I past t (TaskBegin prior task) knows comes finished =
    let not = task-unstarted run W I past t task knows comes.some comes.picks in
    rw (ne_eqb INITIAL_TASK task (λ is. true≢false (sym (ap has_started finished) ∙ ap (λ k. has_started (pooled_at W k).condition) is ∙ not))) finished
go-finished run W I past t e knows comes finished = finished

-- the Back of an event
back-unready : (W : World) (t : ℕ) (e : Event) → is_explicit (pooled_at W INITIAL_TASK).kind ≡ false → EventOrderly W t e →
    (pooled_at W INITIAL_TASK).condition ≢ condition.Ready →
    (pooled_back W e INITIAL_TASK).condition ≢ condition.Ready
back-unready W t (TaskCreate task false codeptr) initial orderly unready =
    rw (ne_eqb INITIAL_TASK task (λ is. true≢false (sym orderly.task.explicit ∙ ap (λ k. is_explicit (pooled_at W k).kind) (sym is) ∙ initial))) unready
back-unready W t (TaskCreate task true codeptr) initial orderly unready = unready
back-unready W t (TaskEnd task) initial orderly unready =
    unready-either (INITIAL_TASK == task) (come_to (pooled_at W INITIAL_TASK) condition.Finished) (pooled_at W INITIAL_TASK) finished-unready unready
back-unready W t e initial orderly unready = unready

back-finished : (W : World) (t : ℕ) (e : Event) → EventOrderly W t e → (pooled_at W INITIAL_TASK).condition ≡ condition.Finished →
    (pooled_back W e INITIAL_TASK).condition ≡ condition.Finished
back-finished W t (TaskCreate task false codeptr) orderly finished =
    let apart : INITIAL_TASK ≡ task → ⊥ = λ is.
    true≢false (sym (ap has_started finished) ∙ ap (λ k. has_started (pooled_at W k).condition) is ∙ ap has_started orderly.task.made) in
    rw (ne_eqb INITIAL_TASK task apart) finished
back-finished W t (TaskCreate task true codeptr) orderly finished = finished
back-finished W t (TaskEnd task) orderly finished =
    finished-either (INITIAL_TASK == task) (come_to (pooled_at W INITIAL_TASK) condition.Finished) (pooled_at W INITIAL_TASK) refl finished
back-finished W t e orderly finished = finished

-- what has started then had started
started-back : (W : World) (t : ℕ) (e : Event) (k : ℕ) → EventOrderly W t e → has_started (pooled_back W e k).condition ≡ true →
    has_started (pooled_at W k).condition ≡ true
started-back W t (TaskCreate task false codeptr) k orderly started =
    elim (cases_eq k task) [
      | inl is ↦ absurd (true≢false (sym started ∙ rw (is, eq-eqb task task refl) refl))
      | inr other ↦ sym (rw (ne_eqb k task other) refl) ∙ started
    ]
started-back W t (TaskCreate task true codeptr) k orderly started = started
started-back W t (TaskEnd task) k orderly started =
    elim (cases_eq k task) [
      | inl is ↦ ap (λ j. has_started (pooled_at W j).condition) is ∙ ap has_started orderly.task.started
      | inr other ↦ sym (rw (ne_eqb k task other) refl) ∙ started
    ]
started-back W t e k orderly started = started

-- ---- before the initial task has begun

-- the events that there may be then
abbrev pub IsOpening : Event → Type 0
IsOpening ThreadBegin = Unit {0}
IsOpening InitialTaskBegin = Unit {0}
IsOpening other = ⊥

-- thread 0 has them, since no other thread is made
unmade-apart : (e : Event) (now : ThreadStage) → now ≡ stage_before e → now ≡ thread_stage.Unmade → ⊥
unmade-apart ThreadBegin now is unmade = let both = sym is ∙ unmade in cc
unmade-apart e now is unmade = let both = sym is ∙ unmade in cc

opening-zeroth : (W : World) (t : ℕ) (e : Event) (event : Option Event) → Comes W t e → IsEarly W t event → t ≡ 0
opening-zeroth W t e event comes early =
    elim (cases_eq t 0) [ inl zeroth ↦ zeroth | inr other ↦ absurd (unmade-apart e _ (comes-stage W t e comes) (early.alone other)) ]

-- it has no task, and nothing to do
no-current : (W : World) (t : ℕ) (event : Option Event) → IsEarly W t event → 1 ≤ current W t → ⊥
no-current W t event early some = let none : current W t ≡ 0 = ap (λ stack. slice_index_or stack 0 0) early.stack in omega (arith, some, none)

opening : (W : World) (t : ℕ) (e : Event) (event : Option Event) → Comes W t e → IsEarly W t event →
    (pooled_at W INITIAL_TASK).condition ≡ condition.Made → IsOpening e
opening W t ThreadBegin event comes early made = tt
opening W t InitialTaskBegin event comes early made = tt
opening W t ThreadEnd event comes early made =
    let both = sym made ∙ comes.first (opening-zeroth W t ThreadEnd event comes early) in cc
opening W t InitialTaskEnd event comes early made = no-current W t event early comes.within.some
opening W t (MemberBegin r k) event comes early made =
    let region = comes.region in let some = comes.some in let invited = early.invited in omega (arith, region, some, invited)
opening W t (MemberEnd r k) event comes early made = no-current W t event early comes.within.some
opening W t (TaskBegin prior task) event comes early made =
    elim comes.picks [
      | inl picks ↦ no-current W t event early picks.within.some
      | inr picks ↦ let task = picks.task in let some = comes.some in let none = early.undeferred in omega (arith, task, some, none)
    ]
opening W t (TaskEnd task) event comes early made = no-current W t event early comes.within.some
opening W t (Dispatch share) event comes early made = let both = sym early.taken ∙ comes.taken in cc
opening W t e event comes early made = no-current W t event early comes.0.within.some

-- it is so still where the thread is as it was
early-then : (W after : World) (u : ℕ) (event now : Option Event) → thread_at after u ≡ thread_at W u → IsFirstEvent now → IsEarly W u event →
    IsEarly after u now
early-then W after u event now same first early =
    record {
      stack = ap (λ (x : Thread). x.stack) same ∙ early.stack;
      invited = ap (λ (x : Thread). x.invited) same ∙ early.invited;
      undeferred = ap (λ (x : Thread). x.undeferred) same ∙ early.undeferred;
      taken = ap (λ (x : Thread). x.taken) same ∙ early.taken;
      first = first;
      alone = λ other. ap (λ (x : Thread). x.stage) same ∙ early.alone other;
    }

early-same : (W after : World) (u : ℕ) (event now : Option Event) → thread_at after u ≡ thread_at W u → now ≡ event → IsEarly W u event → IsEarly after u now
early-same W after u event now same within early = early-then W after u event now same (subst IsFirstEvent (sym within) early.first) early

-- ---- at the start

first-stage : (run : Run) (t : ℕ) → t ≢ 0 → (thread_at (first_world run) t).stage ≡ thread_stage.Unmade
first-stage run zero other = absurd (other refl)
first-stage run (suc u) other = ap (λ (x : Thread). x.stage) (replicated unmade (run.threads - 1) u)

pub first-events-first : (run : Run) → IsWholeRun run → TellsFirst (first_world run) (inside (first run)) []
first-events-first run whole =
    record {
      made = λ is. cc;
      unready = λ is. cc;
      early = λ made t. record {
        stack = first-threads run (λ thread. thread.stack ≡ []) refl refl t;
        invited = first-threads run (λ thread. thread.invited ≡ 0) refl refl t;
        undeferred = first-threads run (λ thread. thread.undeferred ≡ 0) refl refl t;
        taken = first-threads run (λ thread. thread.taken ≡ None) refl refl t;
        first = subst IsFirstEvent (sym (first-inside run t)) tt;
        alone = first-stage run t;
      };
      one = λ made. omega arith;
      more = λ started. absurd (true≢false (sym started));
      over = λ ended. absurd (true≢false (sym ended ∙ ap is_ending (first-inside run 0)));
    }

-- ---- after what is no event

-- a thread without a task takes no share of work
untaken : (W : World) (t : ℕ) (share : Option Share) → (thread_at W t).stack ≡ [] → MayTake W t share → share ≡ None
untaken W t None stack takes = refl
untaken W t (Some share) stack takes =
    let none : current W t ≡ 0 = ap (λ s. slice_index_or s 0 0) stack in let some = takes.some in absurd (omega (arith, none, some))

pub first-events-stays : (run : Run) (W after : World) (I J : Inside) (past : List EventRecord) → Stays run W after I J past → TellsFirst after J past
first-events-stays run W after I J past stays =
    let known = stays.knows.first in
    let alike = stays.alike in
    let same : (pooled_at after INITIAL_TASK).condition ≡ (pooled_at W INITIAL_TASK).condition =
    ap (λ pool. (pool_task_at pool.tasks INITIAL_TASK).condition) alike.world.pool in
    record {
      made = λ unmade. known.made (sym (alike.world.thread 0).stage ∙ unmade);
      unready = λ ready. known.unready (sym same ∙ ready);
      early = λ made t.
          let early = known.early (sym same ∙ made) t in
          let stack = (alike.world.thread t).stack ∙ early.stack in
          record {
            stack = stack;
            invited = (alike.world.thread t).invited ∙ early.invited;
            undeferred = (alike.world.thread t).undeferred ∙ early.undeferred;
            taken = ⊎_elim (λ kept. kept ∙ early.taken) (untaken after t (thread_at after t).taken stack) (alike.taken t);
            first = subst IsFirstEvent (sym (stays.same t)) early.first;
            alone = λ other. (alike.world.thread t).stage ∙ early.alone other;
          };
      one = λ made. known.one (sym same ∙ made);
      more = λ started. known.more (ap has_started (sym same) ∙ started);
      over = λ ended. same ∙ known.over (ap₂ (λ s i. is_over s || is_ending i) (sym (alike.world.thread 0).stage) (sym (stays.same 0)) ∙ ended);
    }

-- ---- after the Go of an event

-- how often a thread has had events where it has begun, and where it hasn't
some-events : (now : ThreadStage) (event : Option Event) (t : ℕ) (past : List EventRecord) → TellsThread now event t past → now ≡ thread_stage.Begun →
    1 ≤ events_of t past
some-events now event t past known begun =
    elim (cases_eq (events_of t past) 0) [
      | inl none ↦ absurd (true≢false (sym (eq-eqb (events_of t past) 0 none) ∙ known.none ∙ ap (λ s. not (is_begun s)) begun))
      | inr some ↦ pos_of_ne-zero some
    ]

no-events : (now : ThreadStage) (event : Option Event) (t : ℕ) (past : List EventRecord) → TellsThread now event t past → now ≡ thread_stage.Made →
    events_of t past ≡ 0
no-events now event t past known made = eqb-true (events_of t past) 0 (known.none ∙ ap (λ s. not (is_begun s)) made)

-- behind the begin of thread 0 it is early still
early-after : (W after : World) (I J : Inside) (t : ℕ) (e : Event) → Touches W after t e → Enters I J t (Some e) → IsOpening e → t ≡ 0 →
    (pooled_after W t e INITIAL_TASK).condition ≡ condition.Made → ((u : ℕ) → IsEarly W u (I u)) → (u : ℕ) → IsEarly after u (J u)
early-after W after I J t ThreadBegin touches enters opens zeroth made early u =
    elim (cases_eq u t) [
      | inl is ↦ subst (λ v. IsEarly after v (J v)) (sym is) (record {
        stack = ap (λ (x : Thread). x.stack) touches.world.own ∙ (early t).stack;
        invited = ap (λ (x : Thread). x.invited) touches.world.own ∙ (early t).invited;
        undeferred = ap (λ (x : Thread). x.undeferred) touches.world.own ∙ (early t).undeferred;
        taken = ap (λ (x : Thread). x.taken) touches.world.own ∙ (early t).taken;
        first = subst IsFirstEvent (sym enters.own) tt;
        alone = λ other. absurd (other zeroth);
      })
      | inr other ↦ early-same W after u (I u) (J u) (touches.world.others u other) (enters.others u other) (early u)
    ]
early-after W after I J t InitialTaskBegin touches enters opens zeroth made early u = cc
early-after W after I J t e touches enters opens zeroth made early u = absurd opens

-- the first event of thread 0 is its begin
one-after : (W after : World) (I : Inside) (t position : ℕ) (e : Event) (past : List EventRecord) → Comes W t e → IsOpening e → t ≡ 0 →
    (pooled_after W t e INITIAL_TASK).condition ≡ condition.Made → TellsThread (thread_at W t).stage (I t) t past →
    events_of 0 (recorded position t after e ∷ past) ≤ 1
one-after W after I t position ThreadBegin past comes opens zeroth made told =
    let more = events-own position t after ThreadBegin past in
    let none = no-events _ (I t) t past told comes in
    subst (λ u. events_of u (recorded position t after ThreadBegin ∷ past) ≤ 1) zeroth (omega (arith, more, none))
one-after W after I t position InitialTaskBegin past comes opens zeroth made told = cc
one-after W after I t position e past comes opens zeroth made told = absurd opens

-- the second one is the begin of the initial task
more-after : (W after : World) (I : Inside) (t position : ℕ) (e : Event) (past : List EventRecord) → Comes W t e → IsOpening e → t ≡ 0 →
    (pooled_at W INITIAL_TASK).condition ≡ condition.Made → has_started (pooled_after W t e INITIAL_TASK).condition ≡ true →
    TellsThread (thread_at W t).stage (I t) t past →
    2 ≤ events_of 0 (recorded position t after e ∷ past)
more-after W after I t position ThreadBegin past comes opens zeroth made started told = absurd (true≢false (sym started ∙ ap has_started made))
more-after W after I t position InitialTaskBegin past comes opens zeroth made started told =
    let more = events-own position t after InitialTaskBegin past in
    let some = some-events _ (I t) t past told comes.quiet.free.stage in
    subst (λ u. 2 ≤ events_of u (recorded position t after InitialTaskBegin ∷ past)) zeroth (omega (arith, more, some))
more-after W after I t position e past comes opens zeroth made started told = absurd opens

-- thread 0 ends behind the initial task
ending-after : (W : World) (t : ℕ) (e : Event) → Comes W t e → t ≡ 0 → is_ending (Some e) ≡ true →
    (pooled_after W t e INITIAL_TASK).condition ≡ condition.Finished
ending-after W t ThreadEnd comes zeroth ends = comes.first zeroth
ending-after W t e comes zeroth ends = absurd (true≢false (sym ends))

-- all of it: where the initial task was only made before the event, this is one of the two first ones
module _ (run : Run) (W after : World) (I J : Inside) (past : List EventRecord) (t position : ℕ) (e : Event) (goes : Goes run W after I J past t e) where
  condition-after : (pooled_at after INITIAL_TASK).condition ≡ (pooled_after W t e INITIAL_TASK).condition
  condition-after = ap (λ (x : PoolTask). x.condition) (goes.touches.world.pooled INITIAL_TASK)

  made-before : (pooled_after W t e INITIAL_TASK).condition ≡ condition.Made → (pooled_at W INITIAL_TASK).condition ≡ condition.Made
  made-before made =
      let below = goes.knows.sound.made.initial.below in
      let not : has_started (pooled_at W INITIAL_TASK).condition ≡ false =
      ⊎_elim (λ unbegun. unbegun) (λ new. absurd (omega (arith, below, new))) (unstarted W t e INITIAL_TASK goes.comes (ap has_started made)) in
      only-made _ not goes.knows.first.unready

  opens-run : (pooled_at W INITIAL_TASK).condition ≡ condition.Made → IsOpening e
  opens-run made = opening W t e (I t) goes.comes (goes.knows.first.early made t) made

  zeroth-then : (pooled_at W INITIAL_TASK).condition ≡ condition.Made → t ≡ 0
  zeroth-then made = opening-zeroth W t e (I t) goes.comes (goes.knows.first.early made t)

  begun-after : (thread_at after t).stage ≡ thread_stage.Begun
  begun-after = ap (λ (x : Thread). x.stage) goes.touches.world.own ∙ goes-stage W t e goes.comes

  made-after : (thread_at after 0).stage ≢ thread_stage.Unmade
  made-after unmade =
      elim (cases_eq 0 t) [
        | inl is ↦ let both = sym begun-after ∙ ap (λ u. (thread_at after u).stage) (sym is) ∙ unmade in cc
        | inr other ↦ goes.knows.first.made (ap (λ (x : Thread). x.stage) (sym (goes.touches.world.others 0 other)) ∙ unmade)
      ]

  events-grow : events_of 0 past ≤ events_of 0 (recorded position t after e ∷ past)
  events-grow =
      elim (cases_eq 0 t) [
        | inl is ↦ subst (λ u. events_of u past ≤ events_of u (recorded position t after e ∷ past)) (sym is)
            (let more = events-own position t after e past in omega (arith, more))
        | inr other ↦ let same = events-other position t after e past 0 other in omega (arith, same)
      ]

  more-go : (started : Bool) → has_started (pooled_at W INITIAL_TASK).condition ≡ started → has_started (pooled_after W t e INITIAL_TASK).condition ≡ true →
      2 ≤ events_of 0 (recorded position t after e ∷ past)
  more-go true is started = let before = goes.knows.first.more is in let grows = events-grow in omega (arith, before, grows)
  more-go false is started =
      let made = only-made _ is goes.knows.first.unready in
      more-after W after I t position e past goes.comes (opens-run made) (zeroth-then made) made started (goes.knows.threads t)

  over-after : (is_over (thread_at after 0).stage || is_ending (J 0)) ≡ true → (pooled_after W t e INITIAL_TASK).condition ≡ condition.Finished
  over-after ended =
      elim (cases_eq 0 t) [
        | inl is ↦
            let own : (is_over (thread_at after t).stage || is_ending (J t)) ≡ true =
            subst (λ u. (is_over (thread_at after u).stage || is_ending (J u)) ≡ true) is ended in
            ending-after W t e goes.comes (sym is) (sym (ap₂ (λ s i. is_over s || is_ending i) begun-after goes.enters.own) ∙ own)
        | inr other ↦
            let same = ap₂ (λ (x : Thread) i. is_over x.stage || is_ending i) (sym (goes.touches.world.others 0 other)) (sym (goes.enters.others 0 other)) in
            go-finished run W I past t e goes.knows goes.comes (goes.knows.first.over (same ∙ ended))
      ]

  first-events-after : TellsFirst after J (recorded position t after e ∷ past)
  first-events-after =
      record {
        made = made-after;
        unready = λ ready. go-unready W t e INITIAL_TASK goes.knows.first.unready (sym condition-after ∙ ready);
        early = λ made.
            let now = sym condition-after ∙ made in
            let was = made-before now in
            early-after W after I J t e goes.touches goes.enters (opens-run was) (zeroth-then was) now (goes.knows.first.early was);
        one = λ made.
            let now = sym condition-after ∙ made in
            let was = made-before now in
            one-after W after I t position e past goes.comes (opens-run was) (zeroth-then was) now (goes.knows.threads t);
        more = λ started. more-go _ refl (ap has_started (sym condition-after) ∙ started);
        over = λ ended. condition-after ∙ over-after ended;
      }

pub first-events-go : (run : Run) (W after : World) (I J : Inside) (past : List EventRecord) (t position : ℕ) (e : Event) → Goes run W after I J past t e →
    TellsFirst after J (recorded position t after e ∷ past)
first-events-go run W after I J past t position e goes = first-events-after run W after I J past t position e goes

-- ---- after its Back

-- a thread that was made stays so
made-either : (which : Bool) (one other : Thread) → one.stage ≢ thread_stage.Unmade → other.stage ≢ thread_stage.Unmade →
    (if which then one else other).stage ≢ thread_stage.Unmade
made-either true one other first second = first
made-either false one other first second = second

made-unmade : (now : ThreadStage) → stage_once_made now ≢ thread_stage.Unmade
made-unmade thread_stage.Unmade is = cc
made-unmade thread_stage.Made is = cc
made-unmade thread_stage.Begun is = cc
made-unmade thread_stage.Ended is = cc

ended-unmade : thread_stage.Ended ≢ thread_stage.Unmade
ended-unmade is = cc

back-made : (W : World) (t : ℕ) (e : Event) (u : ℕ) → (thread_at W u).stage ≢ thread_stage.Unmade → (thread_back W t e u).stage ≢ thread_stage.Unmade
back-made W t ThreadEnd u there = made-either (u == t) (record (thread_at W u) { stage = thread_stage.Ended }) (thread_at W u) ended-unmade there
back-made W t (ParallelBegin r requested codeptr) u there =
    made-either (is_summoned W t r u) (with_invitation r (thread_at W u)) (thread_at W u) (made-unmade (thread_at W u).stage) there
back-made W t (TaskCreate task true codeptr) u there = made-either (u == t) (record (thread_at W u) { undeferred = task }) (thread_at W u) there there
back-made W t (TaskCreate task false codeptr) u there = there
back-made W t e u there = there

-- the only event that a thread is inside before the initial task is its begin, which changes nothing then
back-early : (W : World) (t : ℕ) (e : Event) (u : ℕ) → IsFirstEvent (Some e) → thread_back W t e u ≡ thread_at W u
back-early W t ThreadBegin u opens = refl
back-early W t e u opens = absurd opens

-- a thread is over, or inside its end, where it was so before
or-one : (one other : Bool) → other ≡ true → (one || other) ≡ true
or-one true other is = refl
or-one false other is = is

over-own : (W : World) (t : ℕ) (e : Event) (event : Option Event) (u : ℕ) (ends : Bool) → is_ending (Some e) ≡ ends → event ≡ Some e →
    (is_over (thread_back W t e u).stage || false) ≡ true → (is_over (thread_at W u).stage || is_ending event) ≡ true
over-own W t e event u true ends within ended = or-one _ _ (ap is_ending within ∙ ends)
over-own W t e event u false ends within ended =
    let stages = back-stage W t e u (λ ending. absurd (true≢false (sym ending ∙ ends))) in
    ap₂ ◌||◌ (sym stages.over) (ap is_ending within ∙ ends) ∙ ended

over-before : (W : World) (t : ℕ) (e : Event) (now event : Option Event) (u : ℕ) → (u ≡ t → event ≡ Some e) → (u ≡ t → now ≡ None) →
    ((u ≡ t → ⊥) → now ≡ event) →
    (is_over (thread_back W t e u).stage || is_ending now) ≡ true → (is_over (thread_at W u).stage || is_ending event) ≡ true
over-before W t e now event u within none same ended =
    elim (cases_eq u t) [
      | inl is ↦ over-own W t e event u _ refl (within is) (sym (ap (λ i. is_over (thread_back W t e u).stage || is_ending i) (none is)) ∙ ended)
      | inr other ↦
          let stages = back-stage W t e u (λ ending. other) in ap₂ (λ over i. over || is_ending i) (sym stages.over) (sym (same other)) ∙ ended
    ]

pub first-events-back : (run : Run) (W after : World) (I J : Inside) (past : List EventRecord) (t : ℕ) (e : Event) →
    ComesBack run W after I J past t e → TellsFirst after J past
first-events-back run W after I J past t e back =
    let known = back.knows.first in
    let orderly = (back.knows.sound.events t e back.within).orderly in
    let initial = ap is_explicit back.knows.sound.orderly.initial in
    let now : (pooled_at after INITIAL_TASK).condition ≡ (pooled_back W e INITIAL_TASK).condition =
    ap (λ (x : PoolTask). x.condition) (back.returns.pooled INITIAL_TASK) in
    let was_made : (pooled_at after INITIAL_TASK).condition ≡ condition.Made → (pooled_at W INITIAL_TASK).condition ≡ condition.Made = λ made.
    only-made _ (unstarted-back W t e INITIAL_TASK orderly (ap has_started (sym now ∙ made))) known.unready in
    record {
      made = λ unmade. back-made W t e 0 known.made (ap (λ (x : Thread). x.stage) (sym (back.returns.thread 0)) ∙ unmade);
      unready = λ ready. back-unready W t e initial orderly known.unready (sym now ∙ ready);
      early = λ made u.
          let early = known.early (was_made made) u in
          let opens = subst IsFirstEvent back.within (known.early (was_made made) t).first in
          let same = back.returns.thread u ∙ back-early W t e u opens in
          elim (cases_eq u t) [
            | inl is ↦ early-then W after u (I u) (J u) same (subst (λ v. IsFirstEvent (J v)) (sym is) (subst IsFirstEvent (sym back.enters.own) tt)) early
            | inr other ↦ early-same W after u (I u) (J u) same (back.enters.others u other) early
          ];
      one = λ made. known.one (was_made made);
      more = λ started. known.more (started-back W t e INITIAL_TASK orderly (ap has_started (sym now) ∙ started));
      over =
          λ ended. now
          ∙ back-finished W t e orderly (known.over (over-before W t e (J 0) (I 0) 0 (λ is. ap I is ∙ back.within) (λ is. ap J is ∙ back.enters.own)
          (back.enters.others 0) (ap (λ (x : Thread). is_over x.stage || is_ending (J 0)) (sym (back.returns.thread 0)) ∙ ended)));
    }

-- ---- rule 5, of the initial task

-- the second event of thread 0 is the begin of the initial task, and no other event is
abbrev begins_by : Event → Bool
begins_by InitialTaskBegin = true
begins_by other = false

not-second : (t count : ℕ) → (t ≡ 0 → count ≡ 1 → ⊥) → ((t == 0) && (count == 1)) ≡ false
not-second t count apart =
    elim (cases_eq t 0) [
      | inl zeroth ↦ ap₂ ◌&&◌ (eq-eqb t 0 zeroth) (ne_eqb count 1 (apart zeroth))
      | inr other ↦ ap (λ b. b && (count == 1)) (ne_eqb t 0 other)
    ]

-- behind the begin of the initial task thread 0 has had two events
two-events : (run : Run) (W : World) (I : Inside) (past : List EventRecord) (t : ℕ) (e : Event) (started : Bool) → Knows run W I past → Comes W t e →
    (IsOpening e → ⊥) →
    has_started (pooled_at W INITIAL_TASK).condition ≡ started → 2 ≤ events_of 0 past
two-events run W I past t e true knows comes later is = knows.first.more is
two-events run W I past t e false knows comes later is =
    let made = only-made _ is knows.first.unready in absurd (later (opening W t e (I t) comes (knows.first.early made t) made))

second-is : (run : Run) (W : World) (I : Inside) (past : List EventRecord) (t : ℕ) (e : Event) → Knows run W I past → Comes W t e →
    ((t == 0) && (events_of 0 past == 1)) ≡ begins_by e
second-is run W I past t InitialTaskBegin knows comes =
    let some = some-events _ (I t) t past (knows.threads t) comes.quiet.free.stage in
    let here : 1 ≤ events_of 0 past = subst (λ u. 1 ≤ events_of u past) comes.zeroth some in
    let few = knows.first.one comes.made in
    ap₂ ◌&&◌ (eq-eqb t 0 comes.zeroth) (eq-eqb (events_of 0 past) 1 (omega (arith, here, few)))
second-is run W I past t ThreadBegin knows comes =
    not-second t (events_of 0 past) (λ zeroth one.
    let none = ap (λ u. events_of u past) (sym zeroth) ∙ no-events _ (I t) t past (knows.threads t) comes in omega (arith, one, none))
second-is run W I past t e knows comes =
    not-second t (events_of 0 past) (λ zeroth one. let two = two-events run W I past t e _ knows comes (λ opens. opens) refl in omega (arith, one, two))

kept-initial : (after : World) (t : ℕ) (e : Event) (second : Bool) → second ≡ begins_by e →
    (if second then is_initial (call_of after t e) else not (begins_initial (call_of after t e))) ≡ true
unfolding call_of
kept-initial after t InitialTaskBegin second is = rw is refl
kept-initial after t (Sync which stage.RegionBegin codeptr) second is = rw is refl
kept-initial after t (Sync which stage.WaitBegin codeptr) second is = rw is refl
kept-initial after t (Sync which stage.WaitEnd codeptr) second is = rw is refl
kept-initial after t (Sync which stage.RegionEnd codeptr) second is = rw is refl
kept-initial after t (Dispatch (Chunk start count)) second is = rw is refl
kept-initial after t (Dispatch (Section codeptr)) second is = rw is refl
kept-initial after t e second is = rw is refl

pub keeps-initial : (run : Run) (W after : World) (I J : Inside) (past : List EventRecord) (t position : ℕ) (e : Event) → Goes run W after I J past t e →
    (if (t == 0) && (events_of 0 past == 1) then is_initial (recorded position t after e).call
    else not (begins_initial (recorded position t after e).call)) ≡ true
keeps-initial run W after I J past t position e goes = kept-initial after t e _ (second-is run W I past t e goes.knows goes.comes)
