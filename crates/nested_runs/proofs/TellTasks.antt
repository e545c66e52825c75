-- Created tasks are the explicit ones (rule 11, and the taskwait of rule 12).
use Rattle.std.proofs.Common.{ℕ, zero, suc, ◌≡◌, ◌≤◌, ◌==◌, ◌&&◌, ◌||◌, not, Bool, true, false, if◌then◌else◌, List, [], ◌∷◌, length, slice_index_or, refl, sym, ap, ◌∙◌, subst, inl, inr, arith}
use Rattle.std.specs.Prelude.{All, count_by, Option, Some, None}
use Rattle.std.specs.List.{list_any}
use Rattle.std.proofs.lemmas.Bool.{cases_eq, cases_lt, eq-eqb, eqb-false, ne_eqb, or_parts, or_right, true≢false}
use Rattle.std.proofs.lemmas.List.Folds.{list_any_at}
use Rattle.std.proofs.lemmas.List.Sums.{get_or-le-sum_by, list_all-from_AllPass}
use Rattle.std.proofs.lemmas.List.Elements.{All-cons, All-head, All-nil, All-same, All-tail, All-weaker}
use Rattle.ompt_calls.specs.declared.event.EventRecord.{EventRecord}
use Rattle.task_pool.specs.declared.task.Condition.{Condition}
use Rattle.task_pool.specs.declared.task.Condition.TheVariants as condition
use Rattle.task_pool.specs.declared.task.Task.{Task as PoolTask}
use Rattle.task_pool.specs.Tasks.{is_explicit, is_finished, is_open_child, no_task as no_pooled, open_children, task_at as pool_task_at}
use Rattle.task_pool.specs.View.{PoolView, fresh_task}
use Rattle.c_model.specs.declared.point.SyncStage.TheVariants as stage
use Rattle.omp_model.specs.declared.event.Event.{Event}
use Rattle.omp_model.specs.declared.event.Event.TheVariants.{Dispatch, InitialTaskBegin, InitialTaskEnd, MemberBegin, MemberEnd, Sync, TaskBegin, TaskCreate, TaskEnd}
use Rattle.omp_model.specs.declared.event.Share.TheVariants.{Chunk, Section}
use Rattle.omp_model.specs.declared.limits.TheConstants.{INITIAL_TASK}
use Rattle.omp_model.specs.State.{Run, Thread, World, first, first_world, pooled_at}
use Rattle.omp_model.specs.Calls.{call_of}
use Rattle.omp_model.specs.Conditions.{has_started}
use Rattle.omp_model.specs.EventEffects.{kind_of_task}
use Rattle.omp_model.specs.MadeWorld.{IsMadeWorld}
use Rattle.omp_model.specs.Members.{current, is_explicit_task}
use Rattle.omp_model.proofs.Touching.{come_to, pooled_after, pooled_back}
use Rattle.omp_model.proofs.MadeWords.{pool-at}
use Rattle.nested_runs.proofs.Coming.{ComesToTask, PicksTask, PicksUndeferred}
use Rattle.nested_runs.proofs.Recorded.{Inside, inside, recorded}
use Rattle.nested_runs.proofs.Readings.{completed_by, created_by, started_by}
use Rattle.nested_runs.proofs.Knows.{ComesBack, Goes, IsWholeRun, Knows, Stays}
use Rattle.nested_runs.proofs.Known.{IsOver, TellsTasks}
use Rattle.trace_check.specs.Before.{Creation, and_one, creations, has_started as was_started, is_complete, is_created, is_just}
use Rattle.trace_check.specs.Rules.{has_no_child, keeps_starts}
use Rattle.nested_runs.proofs.CallReadings.{creation-is}
use Rattle.nested_runs.proofs.FirstWorlds.{first-inside, first-pooled}
use Rattle.nested_runs.proofs.PooledTasks.{by-case, current-same, same-back, same-pooled, unmade-pooled}
use Rattle.nested_runs.proofs.ToldTasks.{HasMaker, TellsTask, complete-more, created-more, kind-explicit, made_by, nothing-told, plain-told, same-told, started-more, tells-each, told-of}

-- ---- the task that starts

-- it is explicit, and hasn't started
pub record IsNew (W : World) (task : ℕ) : Type 0 where
  pub explicit : is_explicit_task W task ≡ true
  pub unstarted : has_started (pooled_at W task).condition ≡ false

module _ (run : Run) (W : World) (I : Inside) (past : List EventRecord) (t : ℕ) (task : ℕ) where
  picked : Knows run W I past → PicksTask W t task → IsNew W task
  picked knows picks = record { explicit = knows.tasks.ready task picks.ready; unstarted = ap has_started picks.ready }

  -- or it is an undeferred one, that its thread is to start
  detained : Knows run W I past → 1 ≤ task → PicksUndeferred W t task → IsNew W task
  detained knows some picks =
      let starts = knows.sound.orderly.starts t (subst (λ k. 1 ≤ k) (sym picks.task) some) in
      let is = picks.task in
      record {
        explicit = ap (is_explicit_task W) (sym is) ∙ starts.explicit;
        unstarted = ap (λ k. has_started (pooled_at W k).condition) (sym is) ∙ ap has_started starts.made;
      }

  -- in either case
  pub starts-new : Knows run W I past → (prior : ℕ) → ComesToTask W t prior task → IsNew W task
  starts-new knows prior comes = elim comes.picks [ inl picks ↦ picked knows picks | inr picks ↦ detained knows comes.some picks ]

-- ---- after the Go of an event

-- who creates a task is its parent
abbrev pub IsMaker : World → Option Creation → Type 0
IsMaker W None = Unit {0}
IsMaker W (Some creation) = HasMaker W creation

module _ (run : Run) (W after : World) (I J : Inside) (past : List EventRecord) (t position : ℕ) where
  -- the task that is made
  told-new : (e : Event) (task : ℕ) (undeferred : Bool) → made_by e ≡ Some task → started_by e ≡ None → Goes run W after I J past t e → (k : ℕ) → k ≡ task →
      task ≡ length W.tasks → (parent region : ℕ) → TellsTask (recorded position t after e ∷ past) k (fresh_task parent region (kind_of_task undeferred))
  told-new e task undeferred made started goes k is new parent region =
      let none : TellsTask past k no_pooled =
      nothing-told past k (pooled_at W k) (unmade-pooled W goes.knows.sound.made k (omega (arith, is, new))) (told-of W I past goes.knows.tasks k) in
      record {
        created =
            created-more position t after e past k ∙
            (ap (λ one. is_just k one || is_created k past) made ∙ rw (eq-eqb task k (sym is)) (sym (kind-explicit undeferred)));
        started = started-more position t after e past k ∙ (ap (λ one. is_just k one || was_started k past) started ∙ (none.started ∙ rw kind-explicit refl));
        finished = λ explicit finished. cc;
        ready = λ ready. cc;
      }

  -- the task that starts
  told-started : (e : Event) → made_by e ≡ None → (k : ℕ) → is_just k (started_by e) ≡ true → Goes run W after I J past t e → IsNew W k →
      TellsTask (recorded position t after e ∷ past) k (come_to (pooled_at W k) condition.Started)
  told-started e made k started goes new =
      record {
        created = created-more position t after e past k ∙ (ap (λ one. is_just k one || is_created k past) made ∙ goes.knows.tasks.created k);
        started = started-more position t after e past k ∙ (ap (λ b. b || was_started k past) started ∙ rw new.explicit refl);
        finished = λ explicit finished. cc;
        ready = λ ready. cc;
      }

  -- what is told of each task
  told-after : (e : Event) → Goes run W after I J past t e → (k : ℕ) → TellsTask (recorded position t after e ∷ past) k (pooled_after W t e k)
  told-after InitialTaskBegin goes k =
      let known = same-told position t after InitialTaskBegin past k (pooled_at W k) refl refl (told-of W I past goes.knows.tasks k) in
      by-case (TellsTask (recorded position t after InitialTaskBegin ∷ past) k) k INITIAL_TASK _ _
      (λ is. plain-told _ k (pooled_at W k) _ (ap (is_explicit_task W) is ∙ ap is_explicit goes.knows.sound.orderly.initial) (λ same. cc) known) known
  told-after InitialTaskEnd goes k =
      let known = same-told position t after InitialTaskEnd past k (pooled_at W k) refl refl (told-of W I past goes.knows.tasks k) in
      by-case (TellsTask (recorded position t after InitialTaskEnd ∷ past) k) k INITIAL_TASK _ _
      (λ is. plain-told _ k (pooled_at W k) _ (ap (is_explicit_task W) is ∙ ap is_explicit goes.knows.sound.orderly.initial) (λ same. cc) known) known
  told-after (MemberBegin r task) goes k =
      let known = same-told position t after (MemberBegin r task) past k (pooled_at W k) refl refl (told-of W I past goes.knows.tasks k) in
      by-case (TellsTask (recorded position t after (MemberBegin r task) ∷ past) k) k task _ _
      (λ is.
      let none = nothing-told _ k (pooled_at W k) (unmade-pooled W goes.knows.sound.made k (omega (arith, is, goes.comes.task))) known in
      record { created = none.created; started = none.started; finished = λ explicit finished. absurd (true≢false (sym explicit)); ready = λ ready. cc })
      known
  told-after (MemberEnd r task) goes k =
      let known = same-told position t after (MemberEnd r task) past k (pooled_at W k) refl refl (told-of W I past goes.knows.tasks k) in
      by-case (TellsTask (recorded position t after (MemberEnd r task) ∷ past) k) k task _ _
      (λ is. plain-told _ k (pooled_at W k) _ (ap (is_explicit_task W) is ∙ ap is_explicit goes.comes.kind) (λ same. cc) known) known
  told-after (TaskCreate task undeferred codeptr) goes k =
      elim (cases_eq k task) [
        | inl is ↦ rw (eq-eqb k task is) (told-new (TaskCreate task undeferred codeptr) task undeferred refl refl goes k is goes.comes.1 _ _)
        | inr apart ↦ rw (ne_eqb k task apart)
            (same-told position t after (TaskCreate task undeferred codeptr) past k (pooled_at W k) (ne_eqb task k (λ is. apart (sym is))) refl
            (told-of W I past goes.knows.tasks k))
      ]
  told-after (TaskBegin prior task) goes k =
      elim (cases_eq k task) [
        | inl is ↦ rw (eq-eqb k task is)
            (told-started (TaskBegin prior task) refl k (eq-eqb task k (sym is)) goes
            (subst (IsNew W) (sym is) (starts-new run W I past t task goes.knows prior goes.comes)))
        | inr apart ↦ rw (ne_eqb k task apart)
            (same-told position t after (TaskBegin prior task) past k (pooled_at W k) refl (ne_eqb task k (λ is. apart (sym is)))
            (told-of W I past goes.knows.tasks k))
      ]
  told-after e goes k = same-told position t after e past k (pooled_at W k) refl refl (told-of W I past goes.knows.tasks k)

  -- who creates is the current task
  made-by-current : (e : Event) → Goes run W after I J past t e → IsMaker after (created_by after t e)
  made-by-current (TaskCreate task undeferred codeptr) goes =
      let own : (pooled_after W t (TaskCreate task undeferred codeptr) task).parent ≡ current W t = rw (eq-eqb task task refl) refl in
      ap (λ (x : PoolTask). x.parent) (goes.touches.world.pooled task) ∙ (own ∙ sym (current-same W after t (ap (λ (x : Thread). x.stack) goes.touches.world.own)))
  made-by-current e goes = tt

  -- a task that ends is complete
  told-over : (e : Event) → IsOver (recorded position t after e ∷ past) (Some e)
  told-over (TaskEnd task) = complete-more position t after (TaskEnd task) past task ∙ rw (eq-eqb task task refl) refl
  told-over e = tt

  over-more : (e : Event) (within : Option Event) → IsOver past within → IsOver (recorded position t after e ∷ past) within
  over-more e (Some (TaskEnd task)) over = complete-more position t after e past task ∙ or_right (is_just task (completed_by e)) _ over
  over-more e within over = tt

-- those that were created before keep who created them
creators-kept : (W after : World) (new : ℕ) (cs : List Creation) → ((k : ℕ) → (k ≡ new → ⊥) → (pooled_at after k).parent ≡ (pooled_at W k).parent) →
    list_any (λ (creation : Creation). creation.task == new) cs ≡ false → All (HasMaker W) cs → All (HasMaker after) cs
creators-kept W after new [] keeps none all = All-nil (HasMaker after)
creators-kept W after new (creation ∷ cs) keeps none all =
    let parts = or_parts (creation.task == new) _ none in
    let made : HasMaker W creation = All-head (HasMaker W) creation cs all in
    let kept : HasMaker after creation = keeps creation.task (eqb-false _ _ parts.0) ∙ made in
    All-cons (HasMaker after) creation cs kept (creators-kept W after new cs keeps parts.1 (All-tail (HasMaker W) creation cs all))

-- with the one that is created
creators-more : (W : World) (one : Option Creation) (cs : List Creation) → IsMaker W one → All (HasMaker W) cs → All (HasMaker W) (and_one one cs)
creators-more W None cs new all = all
creators-more W (Some creation) cs new all = All-cons (HasMaker W) creation cs new all

module _ (run : Run) (W after : World) (I J : Inside) (past : List EventRecord) (t position : ℕ) (e : Event) where
  -- each task that was created has its creator
  creators-after : Goes run W after I J past t e →
      All (HasMaker after) (creations (recorded position t after e ∷ past))
  creators-after goes =
      let unmade : is_created (length W.tasks) past ≡ false =
      goes.knows.tasks.created (length W.tasks) ∙ ap (λ (task : PoolTask). is_explicit task.kind)
      (unmade-pooled W goes.knows.sound.made (length W.tasks) (omega arith)) in
      let old = creators-kept W after (length W.tasks) (creations past)
      (λ k other. ap (λ (task : PoolTask). task.parent) (goes.touches.world.pooled k) ∙
      (same-pooled W t e goes.comes k other).parent) unmade goes.knows.tasks.creators in
      All-same (HasMaker after) _ _ (ap (λ one. and_one one (creations past)) (creation-is after t e))
      (creators-more after (created_by after t e) (creations past) (made-by-current run W after I J past t position e goes) old)

  -- all that is told
  pub tasks-go : Goes run W after I J past t e → TellsTasks after J (recorded position t after e ∷ past)
  tasks-go goes =
      tells-each after J _
      (λ k. subst (TellsTask (recorded position t after e ∷ past) k) (sym (goes.touches.world.pooled k)) (told-after run W after I J past t position e goes k))
      (creators-after goes)
      (λ u. elim (cases_eq u t) [
        | inl is ↦
            subst (λ within. IsOver (recorded position t after e ∷ past) within) (sym (ap J is ∙ goes.enters.own)) (told-over run W after I J past t position e)
        | inr other ↦
            subst (λ within. IsOver (recorded position t after e ∷ past) within) (sym (goes.enters.others u other))
            (over-more run W after I J past t position e (I u) (goes.knows.tasks.over u))
      ])

-- ---- after its Back, after what is no event, and at the start

-- a task that has ended finishes, and one that was created is ready
finished-told : (past : List EventRecord) (k : ℕ) (task : PoolTask) → task.condition ≡ condition.Started → is_complete k past ≡ true → TellsTask past k task →
    TellsTask past k (come_to task condition.Finished)
finished-told past k task started complete known =
    record {
      created = known.created;
      started = known.started ∙ ap (λ c. is_explicit task.kind && has_started c) started;
      finished = λ explicit finished. complete;
      ready = λ ready. cc;
    }

ready-told : (past : List EventRecord) (k : ℕ) (task : PoolTask) → task.condition ≡ condition.Made → is_explicit task.kind ≡ true → TellsTask past k task →
    TellsTask past k (come_to task condition.Ready)
ready-told past k task made explicit known =
    record {
      created = known.created;
      started = known.started ∙ ap (λ c. is_explicit task.kind && has_started c) made;
      finished = λ now finished. cc;
      ready = λ ready. explicit;
    }

module _ (run : Run) (W after : World) (I J : Inside) (past : List EventRecord) (t : ℕ) where
  told-back : (e : Event) → ComesBack run W after I J past t e → (k : ℕ) → TellsTask past k (pooled_back W e k)
  told-back (TaskCreate task false codeptr) back k =
      let known = told-of W I past back.knows.tasks k in
      let new = (back.knows.sound.events t _ back.within).orderly.task in
      by-case (TellsTask past k) k task _ _
      (λ is. ready-told past k (pooled_at W k) (ap (λ i. (pooled_at W i).condition) is ∙ new.made) (ap (is_explicit_task W) is ∙ new.explicit) known) known
  told-back (TaskCreate task true codeptr) back k = told-of W I past back.knows.tasks k
  told-back (TaskEnd task) back k =
      let known = told-of W I past back.knows.tasks k in
      let ended = (back.knows.sound.events t _ back.within).orderly.task in
      let complete : is_complete task past ≡ true = subst (λ within. IsOver past within) back.within (back.knows.tasks.over t) in
      by-case (TellsTask past k) k task _ _
      (λ is. finished-told past k (pooled_at W k) (ap (λ i. (pooled_at W i).condition) is ∙ ended.started)
      (ap (λ i. is_complete i past) is ∙ complete) known) known
  told-back e back k = told-of W I past back.knows.tasks k

-- all that is told
pub tasks-back : (run : Run) (W after : World) (I J : Inside) (past : List EventRecord) (t : ℕ) (e : Event) → ComesBack run W after I J past t e →
    TellsTasks after J past
tasks-back run W after I J past t e back =
    tells-each after J past
    (λ k. subst (TellsTask past k) (sym (back.returns.pooled k)) (told-back run W after I J past t e back k))
    (All-weaker (HasMaker W) (HasMaker after)
    (λ creation is. ap (λ (task : PoolTask). task.parent) (back.returns.pooled creation.task) ∙ (same-back W e creation.task).parent ∙ is)
    (creations past) back.knows.tasks.creators)
    (λ u. elim (cases_eq u t) [
      | inl is ↦ subst (λ within. IsOver past within) (sym (ap J is ∙ back.enters.own)) tt
      | inr other ↦ subst (λ within. IsOver past within) (sym (back.enters.others u other)) (back.knows.tasks.over u)
    ])

-- nothing changes
pub tasks-stays : (run : Run) (W after : World) (I J : Inside) (past : List EventRecord) → Stays run W after I J past → TellsTasks after J past
tasks-stays run W after I J past stays =
    let pooled : (k : ℕ) → pooled_at after k ≡ pooled_at W k = λ k. ap (λ (pool : PoolView). pool_task_at pool.tasks k) stays.alike.world.pool in
    tells-each after J past
    (λ k. subst (TellsTask past k) (sym (pooled k)) (told-of W I past stays.knows.tasks k))
    (All-weaker (HasMaker W) (HasMaker after) (λ creation is. ap (λ (task : PoolTask). task.parent) (pooled creation.task) ∙ is)
    (creations past) stays.knows.tasks.creators)
    (λ u. subst (λ within. IsOver past within) (sym (stays.same u)) (stays.knows.tasks.over u))

-- at the start
first-pooled-told : (run : Run) (k : ℕ) → TellsTask [] k (pooled_at (first_world run) k)
first-pooled-told run k =
    first-pooled run (TellsTask [] k)
    (record { created = refl; started = refl; finished = λ explicit finished. absurd (true≢false (sym explicit)); ready = λ ready. cc })
    (record { created = refl; started = refl; finished = λ explicit finished. absurd (true≢false (sym explicit)); ready = λ ready. cc }) k

pub tasks-first : (run : Run) → IsWholeRun run → TellsTasks (first_world run) (inside (first run)) []
tasks-first run whole =
    tells-each (first_world run) (inside (first run)) []
    (first-pooled-told run)
    (All-nil (HasMaker (first_world run)))
    (λ u. subst (λ within. IsOver [] within) (sym (first-inside run u)) tt)

-- ---- the rules

-- a finished child
unopened : (now : Condition) → (if not (is_finished now) then 1 else 0) ≤ 0 → now ≡ condition.Finished
unopened condition.Finished none = refl
unopened condition.Made none = absurd (omega (arith, none))
unopened condition.Ready none = absurd (omega (arith, none))
unopened condition.Started none = absurd (omega (arith, none))

closed-child : (k : ℕ) (task : PoolTask) → (if is_open_child k task then 1 else 0) ≤ 0 → task.parent ≡ k → is_explicit task.kind ≡ true →
    task.condition ≡ condition.Finished
closed-child k task none parent explicit = unopened task.condition (rw (eq-eqb task.parent k parent, explicit) at none)

-- a child of a task with no unfinished child has finished
child-finished : (W : World) (k task : ℕ) → IsMadeWorld W → 1 ≤ k → open_children W.pool.tasks k ≡ 0 → (pooled_at W task).parent ≡ k →
    is_explicit_task W task ≡ true →
    (pooled_at W task).condition ≡ condition.Finished
child-finished W k zero made some none parent explicit = absurd (true≢false (sym explicit))
child-finished W k (suc task) made some none parent explicit =
    let is : pooled_at W (suc task) ≡ slice_index_or W.pool.tasks task no_pooled = pool-at W.pool.tasks task in
    let all : count_by (is_open_child k) W.pool.tasks ≡ 0 = rw (ne_eqb k 0 (λ zeroth. omega (arith, zeroth, some))) at none in
    elim (cases_lt task (length W.pool.tasks)) [
      | inl within ↦
          subst (λ (x : PoolTask). x.condition ≡ condition.Finished) (sym is)
          (closed-child k (slice_index_or W.pool.tasks task no_pooled)
          (subst (λ n. (if is_open_child k (slice_index_or W.pool.tasks task no_pooled) then 1 else 0) ≤ n) all
          (get_or-le-sum_by (λ (x : PoolTask). if is_open_child k x then 1 else 0) W.pool.tasks task no_pooled within))
          (subst (λ (x : PoolTask). x.parent ≡ k) is parent) (subst (λ (x : PoolTask). is_explicit x.kind ≡ true) is explicit))
      | inr past ↦
          absurd (true≢false (sym explicit ∙ ap (λ (x : PoolTask). is_explicit x.kind) (unmade-pooled W made (suc task) (omega (arith, made.pooled, past)))))
    ]

-- a task with no unfinished child has no child that isn't complete
module _ (run : Run) (W : World) (I : Inside) (past : List EventRecord) (k : ℕ) where
  one-child : Knows run W I past → 1 ≤ k → open_children W.pool.tasks k ≡ 0 → (creation : Creation) → HasMaker W creation →
      is_created creation.task past ≡ true →
      (not (creation.creator == k) || is_complete creation.task past) ≡ true
  one-child knows some none creation maker created =
      let explicit : is_explicit_task W creation.task ≡ true = sym (knows.tasks.created creation.task) ∙ created in
      elim (cases_eq creation.creator k) [
        | inl is ↦
            or_right (not (creation.creator == k)) _
            (knows.tasks.finished creation.task explicit (child-finished W k creation.task knows.sound.made some none (maker ∙ is) explicit))
        | inr other ↦ rw (ne_eqb creation.creator k other) refl
      ]

  pub no-child : Knows run W I past → 1 ≤ k → open_children W.pool.tasks k ≡ 0 → has_no_child past k ≡ true
  no-child knows some none =
      list_all-from_AllPass (λ (creation : Creation). not (creation.creator == k) || is_complete creation.task past) (creations past)
      (λ i d within.
      let creation : Creation = slice_index_or (creations past) i d in
      one-child knows some none creation (knows.tasks.creators i d within)
      (list_any_at (λ (other : Creation). other.task == creation.task) (creations past) i d within (eq-eqb _ _ refl)))

-- rule 11
pub keeps-starts : (run : Run) (W after : World) (I J : Inside) (past : List EventRecord) (t position : ℕ) (e : Event) → Goes run W after I J past t e →
    keeps_starts past (recorded position t after e).call ≡ true
unfolding call_of
keeps-starts run W after I J past t position (TaskBegin prior task) goes =
    let new = starts-new run W I past t task goes.knows prior goes.comes in
    rw (goes.knows.tasks.created task, goes.knows.tasks.started task, new.explicit, new.unstarted) refl
keeps-starts run W after I J past t position (Sync which stage.RegionBegin codeptr) goes = refl
keeps-starts run W after I J past t position (Sync which stage.WaitBegin codeptr) goes = refl
keeps-starts run W after I J past t position (Sync which stage.WaitEnd codeptr) goes = refl
keeps-starts run W after I J past t position (Sync which stage.RegionEnd codeptr) goes = refl
keeps-starts run W after I J past t position (Dispatch (Chunk start count)) goes = refl
keeps-starts run W after I J past t position (Dispatch (Section codeptr)) goes = refl
keeps-starts run W after I J past t position e goes = refl
