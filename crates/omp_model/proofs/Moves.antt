-- A task is made, becomes ready, starts and finishes, and the tasks stay orderly.
use Rattle.std.proofs.Common.{◌≡◌, ℕ, zero, suc, ◌+◌, ◌<◌, ◌≤◌, ◌==◌, not, Bool, true, false, if◌then◌else◌, List, [], ◌∷◌, ◌++◌, drop, filter, slice_set, slice_index_or, length, refl, sym, ap, ◌∙◌, subst, inl, inr, arith}
use Rattle.std.specs.Prelude.{All}
use Rattle.std.proofs.lemmas.List.{length-set, length_push, get_or_append_left, get_or_past, get_or-set_other, get_or-set_same}
use Rattle.std.proofs.lemmas.List.Elements.{All-cons, All-drop, All-head, All-nil, All-push, All-tail, All-weaker}
use Rattle.std.proofs.lemmas.Bool.{cases_eq, cases_lt, eq-eqb, true≢false}
use Rattle.c_model.specs.Task.{Task as Code}
use Rattle.task_pool.specs.declared.task.Condition.{Condition}
use Rattle.task_pool.specs.declared.task.Condition.TheVariants as condition
use Rattle.task_pool.specs.declared.task.Task.{Task as PoolTask}
use Rattle.task_pool.specs.declared.task.TaskKind.{TaskKind}
use Rattle.task_pool.specs.declared.task.TaskKind.TheVariants as kind
use Rattle.task_pool.specs.Tasks.{is_explicit, is_finished, task_at as pool_task_at, no_task as no_pool_task, with_condition}
use Rattle.task_pool.specs.View.{fresh_task, is_other, with_finished, with_ready, with_started}
use Rattle.omp_model.specs.declared.limits.TheConstants.{INITIAL_TASK}
use Rattle.omp_model.specs.State.{Task, Thread, World, is_under_way, no_task, pooled_at, task_at, task_with, thread_at, unmade}
use Rattle.omp_model.specs.Members.{current}
use Rattle.omp_model.specs.Changes.{with_undeferred, with_finished_task, is_fresh, without_current_task, with_ready_task, with_started_task, taken_up, task_made}
use Rattle.omp_model.specs.Words.{is_made_thread}
use Rattle.omp_model.specs.MadeWorld.{IsMadeWorld, IsTask, IsThread}
use Rattle.omp_model.specs.Conditions.{AreOrderly, Distinct, HasEnded, IsReady, IsToStart, IsUnderWay, Lacks, WasCreated, WasTakenUp, has_started}
use Rattle.omp_model.proofs.MadeWords.{added-last, pool-at}
use Rattle.omp_model.proofs.Conditions.{Apart, Change, OrderlyAfter, Own, apart-finished, apart-to-start, apart-under-way, by-condition, orderly-change, pooled-added, pooled-other, pooled-same, ready-later, to-start-later, under-way-later}

-- a thread that was made is one of those that there are
pub thread-within : (threads : List Thread) (t : ℕ) → is_made_thread (slice_index_or threads t unmade).stage ≡ true → t < length threads
thread-within [] t there = absurd (true≢false (sym there))
thread-within (thread ∷ threads) zero there = omega arith
thread-within (thread ∷ threads) (suc t) there = let within = thread-within threads t there in omega arith

-- another thread is the same
pub others-same : (W : World) (t : ℕ) (thread : Thread) (u : ℕ) → (u ≡ t → ⊥) → slice_index_or (slice_set W.threads t thread) u unmade ≡ thread_at W u
others-same W t thread u other = get_or-set_other W.threads t u thread unmade other

-- a condition before a task starts, and a task under way
not-started : (W : World) (t k j : ℕ) → has_started (pooled_at W k).condition ≡ false → IsUnderWay W t j → j ≡ k → ⊥
not-started W t k j un one is = true≢false (sym (ap has_started one.started) ∙ ap (λ i. has_started (pooled_at W i).condition) is ∙ un)

-- The condition of one task is changed.
module _ (W after : World) (k : ℕ) (now : Condition) (all : AreOrderly W) (made : IsMadeWorld W) (one : IsTask W k) (pool : after.pool.tasks ≡ with_condition W.pool.tasks k now) (count : length after.tasks ≡ length W.tasks) (holders : (j : ℕ) → (j ≡ k → ⊥) → (task_at after j).thread ≡ (task_at W j).thread) where
  at-other : (j : ℕ) → (j ≡ k → ⊥) → pooled_at after j ≡ pooled_at W j
  at-other j other = ap (λ (tasks : List PoolTask). pool_task_at tasks j) pool ∙ pooled-other W.pool.tasks k now j other

  pub at-it : pooled_at after k ≡ record (pooled_at W k) { condition = now }
  at-it = ap (λ (tasks : List PoolTask). pool_task_at tasks k) pool ∙ pooled-same W.pool.tasks k now one.some (omega (arith, one.below, made.pooled))

  at-kind : (j : ℕ) → (pooled_at after j).kind ≡ (pooled_at W j).kind
  at-kind j = elim (cases_eq j k) [
    | inl is ↦ subst (λ i. (pooled_at after i).kind ≡ (pooled_at W i).kind) (sym is) (ap (λ (x : PoolTask). x.kind) at-it)
    | inr other ↦ ap (λ (x : PoolTask). x.kind) (at-other j other)
  ]

  taken-other : (t j : ℕ) → (j ≡ k → ⊥) → WasTakenUp W t j → WasTakenUp after t j
  taken-other t j other it =
      record { made = record { some = it.made.some; below = rw count it.made.below }; started = rw (at-other j other) it.started; thread = holders j other ∙ it.thread }

  pub change-condition : ((t : ℕ) → WasTakenUp W t k → WasTakenUp after t k) → Change k W after
  change-condition taken =
      record {
        pool = at-other;
        holders = holders;
        taken = λ t j it. elim (cases_eq j k) [
          | inl is ↦ subst (WasTakenUp after t) (sym is) (taken t (subst (WasTakenUp W t) is it))
          | inr other ↦ taken-other t j other it
        ];
        first = λ is. all.alone k (rw (← at-kind k) is);
        initial = at-kind INITIAL_TASK ∙ all.initial;
      }

-- what is so of a thread's own tasks, none of which is the one that is changed
pub own-later : (t k : ℕ) (W after : World) → Change k W after → All (IsUnderWay W t) (thread_at after t).stack → Lacks k (thread_at after t).stack → Distinct (thread_at after t).stack → (1 ≤ (thread_at after t).undeferred → IsToStart W t (thread_at after t).undeferred) → ((thread_at after t).undeferred ≡ k → ⊥) → Own after t
own-later t k W after change stacked lacks distinct starts other =
    record {
      stacked = λ i d within. under-way-later k W after change t (slice_index_or (thread_at after t).stack i d) (lacks i d within) (stacked i d within);
      distinct = distinct;
      starts = λ some. to-start-later k W after change t (thread_at after t).undeferred other (starts some);
    }

-- A task starts on the thread.

abbrev pub beginning : World → ℕ → ℕ → World
beginning W t k = record (taken_up W t k) { pool = with_started W.pool k }

-- the others of a list
all-others : (P Q : ℕ → Type 0) (k : ℕ) (ks : List ℕ) → All P ks → ((j : ℕ) → P j → (j ≡ k → ⊥) → Q j) → All Q (filter (is_other k) ks)
all-others P Q k [] all holds = All-nil Q
all-others P Q k (j ∷ rest) all holds =
    kept (is_other k j) j (filter (is_other k) rest) (λ other. holds j (All-head P j rest all) (λ is. true≢false (sym other ∙ ap (λ i. not (i == k)) is ∙ ap not (eq-eqb k k refl)))) (all-others P Q k rest (All-tail P j rest all) holds)
  where
    kept : (b : Bool) (j : ℕ) (rest : List ℕ) → (b ≡ true → Q j) → All Q rest → All Q (if b then j ∷ rest else rest)
    kept true j rest one others = All-cons Q j rest (one refl) others
    kept false j rest one others = others

pub orderly-beginning : (W : World) (t k : ℕ) → AreOrderly W → IsMadeWorld W → IsThread W t → IsTask W k → has_started (pooled_at W k).condition ≡ false → Apart W t k → OrderlyAfter t W (beginning W t k)
orderly-beginning W t k all made there one un apart =
    let after = beginning W t k in
    let thread : Thread = record (thread_at W t) { stack = k ∷ (thread_at W t).stack; invited = 0; undeferred = 0 } in
    let task : Task = record (task_at W k) { thread = t } in
    let holders : (j : ℕ) → (j ≡ k → ⊥) → (task_at after j).thread ≡ (task_at W j).thread = λ j other. ap (λ (x : Task). x.thread) (get_or-set_other W.tasks k j task no_task other) in
    let change : Change k W after = change-condition W after k condition.Started all made one refl (length-set W.tasks k task) holders (λ u it. absurd (true≢false (sym it.started ∙ un))) in
    let it : IsUnderWay after t k = record {
      started = ap (λ (x : PoolTask). x.condition) (at-it W after k condition.Started all made one refl (length-set W.tasks k task) holders);
      thread = ap (λ (x : Task). x.thread) (get_or-set_same W.tasks k task no_task one.below);
    } in
    let own : thread_at after t ≡ thread = get_or-set_same W.threads t thread unmade (thread-within W.threads t there) in
    orderly-change t k W after all change apart (λ u other. others-same W t thread u other)
    (record {
      stacked = rw own (All-cons (IsUnderWay after t) k (thread_at W t).stack it (All-weaker (IsUnderWay W t) (IsUnderWay after t) (λ j so. under-way-later k W after change t j (not-started W t k j un so) so) (thread_at W t).stack (all.stacked t)));
      distinct = rw own (All-weaker (IsUnderWay W t) (λ (j : ℕ). j ≡ k → ⊥) (λ j so. not-started W t k j un so) (thread_at W t).stack (all.stacked t), all.distinct t);
      starts = rw own (λ some. absurd (omega arith));
    })
    (all-others (IsReady W) (IsReady after) k W.pool.ready all.ready (λ j so other. ready-later k W after change j other so))

-- it does so where it hasn't finished
pub started-is : (W : World) (k : ℕ) → is_finished (pooled_at W k).condition ≡ false → with_started_task W k ≡ record W { pool = with_started W.pool k }
started-is W k un = ap (λ b. if b then W else record W { pool = with_started W.pool k }) un

-- A task is taken off the thread's stack.

off-top : (stack : List ℕ) → Distinct stack → 1 ≤ slice_index_or stack 0 0 → Lacks (slice_index_or stack 0 0) (drop 1 stack) × Distinct (drop 1 stack)
off-top [] distinct some = absurd (omega arith)
off-top (k ∷ rest) distinct some = distinct

popped-is : (W : World) (t : ℕ) → IsThread W t → thread_at (without_current_task W t) t ≡ record (thread_at W t) { stack = drop 1 (thread_at W t).stack }
popped-is W t there = get_or-set_same W.threads t _ unmade (thread-within W.threads t there)

-- what the thread is to start isn't under way
start-apart : (W : World) (t k : ℕ) → AreOrderly W → 1 ≤ k → IsUnderWay W t k → (thread_at W t).undeferred ≡ k → ⊥
start-apart W t k all some one is = by-condition W k (thread_at W t).undeferred condition.Started condition.Made one.started (all.starts t (omega arith)).made (λ same. cc) is

-- what is so of the thread's own tasks, where one under way was taken off and changed
own-popped : (t k : ℕ) (W after : World) → AreOrderly W → IsThread W t → 1 ≤ current W t → k ≡ current W t → IsUnderWay W t k → Change k W after → thread_at after t ≡ record (thread_at W t) { stack = drop 1 (thread_at W t).stack } → Own after t
own-popped t k W after all there some top one change same =
    let off = off-top (thread_at W t).stack (all.distinct t) some in
    let stacked : All (IsUnderWay W t) (drop 1 (thread_at W t).stack) = All-drop (IsUnderWay W t) 1 (thread_at W t).stack (all.stacked t) in
    own-later t k W after change (rw same stacked) (rw (same, top) off.0) (rw same off.1) (rw same (all.starts t))
    (rw same (λ is. start-apart W t k all (rw top some) one is))

-- what is ready isn't under way
ready-apart : (W : World) (t k j : ℕ) → IsUnderWay W t k → IsReady W j → j ≡ k → ⊥
ready-apart W t k j one it is = by-condition W k j condition.Started condition.Ready one.started it (λ same. cc) is

-- the current task is taken off
pub orderly-popped : (W : World) (t k : ℕ) → AreOrderly W → IsThread W t → k ≡ current W t → 1 ≤ k → IsUnderWay W t k → OrderlyAfter t W (without_current_task W t)
orderly-popped W t k all there top some one =
    let after = without_current_task W t in
    let change : Change k W after = record {
      pool = λ j other. refl;
      holders = λ j other. refl;
      taken = λ u j it. record { made = record { some = it.made.some; below = it.made.below }; started = it.started; thread = it.thread };
      first = λ is. all.alone k is;
      initial = all.initial;
    } in
    orderly-change t k W after all change (apart-under-way W t k one) (λ u other. others-same W t _ u other)
    (own-popped t k W after all there (rw (← top) some) top one change (popped-is W t there))
    (All-weaker (IsReady W) (IsReady after) (λ j it. ready-later k W after change j (ready-apart W t k j one it) it) W.pool.ready all.ready)

-- it is off the stack then
pub popped-ended : (W : World) (t k : ℕ) → AreOrderly W → IsThread W t → k ≡ current W t → 1 ≤ k → IsUnderWay W t k → HasEnded (without_current_task W t) t k
popped-ended W t k all there top some one =
    let off = off-top (thread_at W t).stack (all.distinct t) (rw (← top) some) in
    record { task = record { started = one.started; thread = one.thread }; off = rw (popped-is W t there, top) off.0 }

-- A task finishes.

pub finished-is : (W : World) (k : ℕ) → (pooled_at W k).condition ≡ condition.Started → with_finished_task W k ≡ record W { pool = with_finished W.pool k }
finished-is W k is = ap (λ now. if is_under_way now then record W { pool = with_finished W.pool k } else W) is

-- where its thread no longer holds it
pub orderly-finished : (W : World) (t k : ℕ) → AreOrderly W → IsMadeWorld W → IsTask W k → HasEnded W t k → OrderlyAfter t W (with_finished_task W k)
orderly-finished W t k all made one ended =
    let after : World = record W { pool = with_finished W.pool k } in
    let it = ended.task in
    let same : pooled_at after k ≡ record (pooled_at W k) { condition = condition.Finished } = at-it W after k condition.Finished all made one refl refl (λ j other. refl) in
    let change : Change k W after =
    change-condition W after k condition.Finished all made one refl refl (λ j other. refl)
    (λ u was. record { made = record { some = was.made.some; below = was.made.below }; started = rw same refl; thread = was.thread }) in
    subst (OrderlyAfter t W) (sym (finished-is W k it.started))
    (orderly-change t k W after all change (apart-under-way W t k it) (λ u other. refl)
    (own-later t k W after change (all.stacked t) ended.off (all.distinct t) (all.starts t) (λ is. start-apart W t k all one.some it is))
    (All-weaker (IsReady W) (IsReady after) (λ j so. ready-later k W after change j (ready-apart W t k j it so) so) W.pool.ready all.ready))

-- A task is made ready.

pub readied-is : (W : World) (k : ℕ) → (pooled_at W k).condition ≡ condition.Made → with_ready_task W k ≡ record W { pool = with_ready W.pool k }
readied-is W k is = ap (λ now. if is_fresh now then record W { pool = with_ready W.pool k } else W) is

made-apart : (W : World) (t k j : ℕ) → IsToStart W t k → IsUnderWay W t j → j ≡ k → ⊥
made-apart W t k j one it is = by-condition W k j condition.Made condition.Started one.made it.started (λ same. cc) is

pub orderly-readied : (W : World) (t k : ℕ) → AreOrderly W → IsMadeWorld W → IsTask W k → WasCreated W t k → OrderlyAfter t W (with_ready_task W k)
orderly-readied W t k all made one created =
    let after : World = record W { pool = with_ready W.pool k } in
    let it = created.task in
    let same : pooled_at after k ≡ record (pooled_at W k) { condition = condition.Ready } = at-it W after k condition.Ready all made one refl refl (λ j other. refl) in
    let change : Change k W after = change-condition W after k condition.Ready all made one refl refl (λ j other. refl) (λ u was. absurd (true≢false (sym was.started ∙ ap has_started it.made))) in
    subst (OrderlyAfter t W) (sym (readied-is W k it.made))
    (orderly-change t k W after all change (apart-to-start W t k it) (λ u other. refl)
    (own-later t k W after change (all.stacked t) (All-weaker (IsUnderWay W t) (λ (j : ℕ). j ≡ k → ⊥) (λ j so. made-apart W t k j it so) (thread_at W t).stack (all.stacked t)) (all.distinct t) (all.starts t) created.other)
    (All-push (IsReady after) W.pool.ready k
    (All-weaker (IsReady W) (IsReady after) (λ j so. ready-later k W after change j (λ is. by-condition W k j condition.Made condition.Ready it.made so (λ alike. cc) is) so) W.pool.ready all.ready)
    (ap (λ (x : PoolTask). x.condition) same)))

-- The thread is to start the task.

pub orderly-detained : (W : World) (t k : ℕ) → AreOrderly W → IsThread W t → IsToStart W t k → OrderlyAfter t W (with_undeferred W t k)
orderly-detained W t k all there one =
    let after = with_undeferred W t k in
    let change : Change k W after = record {
      pool = λ j other. refl;
      holders = λ j other. refl;
      taken = λ u j it. record { made = record { some = it.made.some; below = it.made.below }; started = it.started; thread = it.thread };
      first = λ is. all.alone k is;
      initial = all.initial;
    } in
    let same : thread_at after t ≡ record (thread_at W t) { undeferred = k } = get_or-set_same W.threads t _ unmade (thread-within W.threads t there) in
    let it : IsToStart after t k = record { made = one.made; explicit = one.explicit; parent = change.taken t (pooled_at W k).parent one.parent } in
    orderly-change t k W after all change (apart-to-start W t k one) (λ u other. others-same W t _ u other)
    (record {
      stacked = rw same (All-weaker (IsUnderWay W t) (IsUnderWay after t) (λ j so. under-way-later k W after change t j (made-apart W t k j one so) so) (thread_at W t).stack (all.stacked t));
      distinct = rw same (all.distinct t);
      starts = rw same (λ some. it);
    })
    (All-weaker (IsReady W) (IsReady after) (λ j so. ready-later k W after change j (λ is. by-condition W k j condition.Made condition.Ready one.made so (λ alike. cc) is) so) W.pool.ready all.ready)

-- A task is made.

further : (n j : ℕ) → (j ≡ n → ⊥) → n ≤ j → n + 1 ≤ j
further n j other past = elim (cases_eq j n) [ inl is ↦ absurd (other is) | inr more ↦ omega arith ]

pushed-other : {A : Type 0} (xs : List A) (x d : A) (j : ℕ) → (j ≡ length xs → ⊥) → slice_index_or (xs ++ x ∷ []) j d ≡ slice_index_or xs j d
pushed-other xs x d j other = elim (cases_lt j (length xs)) [
  | inl within ↦ get_or_append_left xs (x ∷ []) d j within
  | inr past ↦ get_or_past (xs ++ x ∷ []) j d (omega (arith, length_push xs x, further (length xs) j other past)) ∙ sym (get_or_past xs j d past)
]

past-pool : (tasks : List PoolTask) (k : ℕ) → k ≡ length tasks + 1 → pool_task_at tasks k ≡ no_pool_task
past-pool tasks zero is = absurd (omega arith)
past-pool tasks (suc k) is = pool-at tasks k ∙ get_or_past tasks k no_pool_task (omega arith)

module _ (W : World) (parent r : ℕ) (which : TaskKind) (code : Code) (all : AreOrderly W) (made : IsMadeWorld W) (plain : which ≡ kind.Initial → ⊥) where
  abbrev created : World
  created = task_made W parent r which code

  pub fresh-is : pooled_at created (length W.tasks) ≡ fresh_task parent r which
  fresh-is = added-last W.pool.tasks (fresh_task parent r which) (length W.tasks) made.pooled

  unmade-task : (pooled_at W (length W.tasks)).condition ≡ condition.Finished
  unmade-task = ap (λ (x : PoolTask). x.condition) (past-pool W.pool.tasks (length W.tasks) made.pooled)

  kept-task : (j : ℕ) → (j ≡ length W.tasks → ⊥) → pooled_at created j ≡ pooled_at W j
  kept-task j other = pooled-added W.pool.tasks (fresh_task parent r which) j (λ is. other (is ∙ sym made.pooled))

  pub change-made : Change (length W.tasks) W created
  change-made =
      record {
        pool = kept-task;
        holders = λ j other. ap (λ (x : Task). x.thread) (pushed-other W.tasks (task_with code) no_task j other);
        taken = λ t j it.
            let apart : j ≡ length W.tasks → ⊥ = λ is. omega (arith, it.made.below) in
            record {
              made = record { some = it.made.some; below = omega (arith, it.made.below, length_push W.tasks (task_with code)) };
              started = rw (kept-task j apart) it.started;
              thread = ap (λ (x : Task). x.thread) (pushed-other W.tasks (task_with code) no_task j apart) ∙ it.thread;
            };
        first = λ is. absurd (plain (sym (ap (λ (x : PoolTask). x.kind) fresh-is) ∙ is));
        initial = ap (λ (x : PoolTask). x.kind) (kept-task INITIAL_TASK (λ is. omega (arith, made.initial.below))) ∙ all.initial;
      }

  start-new : (t : ℕ) → (thread_at W t).undeferred ≡ length W.tasks → ⊥
  start-new t is =
      by-condition W (length W.tasks) (thread_at W t).undeferred condition.Finished condition.Made unmade-task (all.starts t (omega (arith, made.initial.below))).made (λ same. cc) is

  pub orderly-made : (t : ℕ) → OrderlyAfter t W created
  orderly-made t =
      orderly-change t (length W.tasks) W created all change-made (apart-finished W t (length W.tasks) unmade-task) (λ u other. refl)
      (own-later t (length W.tasks) W created change-made (all.stacked t)
      (All-weaker (IsUnderWay W t) (λ (j : ℕ). j ≡ length W.tasks → ⊥) (λ j so is. by-condition W (length W.tasks) j condition.Finished condition.Started unmade-task so.started (λ same. cc) is) (thread_at W t).stack (all.stacked t))
      (all.distinct t) (all.starts t) (start-new t))
      (All-weaker (IsReady W) (IsReady created) (λ j so. ready-later (length W.tasks) W created change-made j (λ is. by-condition W (length W.tasks) j condition.Finished condition.Ready unmade-task so (λ same. cc) is) so) W.pool.ready all.ready)

  pub was-created : (t : ℕ) → is_explicit which ≡ true → IsTask W parent → IsUnderWay W t parent → WasCreated created t (length W.tasks)
  was-created t explicit there one =
      record {
        task = record {
          made = ap (λ (x : PoolTask). x.condition) fresh-is;
          explicit = ap (λ (x : PoolTask). is_explicit x.kind) fresh-is ∙ explicit;
          parent = subst (λ (x : PoolTask). WasTakenUp created t x.parent) (sym fresh-is) (change-made.taken t parent (record { made = there; started = ap has_started one.started; thread = one.thread }));
        };
        other = start-new t;
      }
