-- What the Go of an event keeps of the tasks that were made before it, and where a task stands that hasn't started.
use Rattle.std.proofs.Common.{ℕ, ◌≡◌, ◌≢◌, ◌<◌, ◌≤◌, ◌==◌, ◌⊎◌, Bool, true, false, if◌then◌else◌, List, [], length, refl, sym, ap, ◌∙◌, subst, inl, inr, true≢false, arith}
use Rattle.std.proofs.lemmas.Bool.{cases_eq, ne_eqb}
use Rattle.std.proofs.lemmas.List.{get_or_past}
use Rattle.ompt_calls.specs.declared.event.EventRecord.{EventRecord}
use Rattle.c_brackets.specs.Effects.{HasNoFork}
use Rattle.c_brackets.specs.Opened.{open_calls, open_items}
use Rattle.task_pool.specs.declared.task.Condition.TheVariants as condition
use Rattle.task_pool.specs.declared.task.Task.{Task as PoolTask}
use Rattle.task_pool.specs.Tasks.{is_explicit}
use Rattle.omp_model.specs.declared.limits.TheConstants.{INITIAL_TASK}
use Rattle.omp_model.specs.declared.event.Event.{Event}
use Rattle.omp_model.specs.declared.event.Event.TheVariants.{Dispatch, InitialTaskBegin, InitialTaskEnd, MemberBegin, MemberEnd, ParallelBegin, TaskBegin, TaskCreate, TaskEnd, ThreadBegin, ThreadEnd}
use Rattle.omp_model.specs.State.{Run, World, no_task, pooled_at, task_at, thread_at}
use Rattle.omp_model.specs.Members.{current}
use Rattle.omp_model.specs.Conditions.{AreOrderly, IsUnderWay, has_started}
use Rattle.omp_model.specs.MadeWorld.{IsMadeWorld}
use Rattle.omp_model.proofs.Touching.{come_to, is_of_code, pooled_after}
use Rattle.omp_model.proofs.MadeEvents.{current-made, first-of}
use Rattle.nested_runs.proofs.Coming.{Comes}
use Rattle.nested_runs.proofs.Knows.{Knows}
use Rattle.nested_runs.proofs.Recorded.{Inside}
use Rattle.nested_runs.proofs.Shown.{opens_at}
use Rattle.nested_runs.proofs.Standing.{Stand, stand_at}
use Rattle.nested_runs.proofs.Standing.Stand.{Free, AtFork}
use Rattle.nested_runs.proofs.Touching.{AreCodes, Touches}
use Rattle.nested_runs.proofs.Codes.{no-fork}
use Rattle.nested_runs.proofs.Showing.{NumberedAlike, brackets-alike}

-- ---- events of the code

-- they are those of a thread that has a task
pub code-some : (W : World) (t : ℕ) (e : Event) → is_of_code e ≡ true → Comes W t e → 1 ≤ current W t
code-some W t ThreadBegin of_code comes = absurd (true≢false (sym of_code))
code-some W t ThreadEnd of_code comes = absurd (true≢false (sym of_code))
code-some W t InitialTaskBegin of_code comes = absurd (true≢false (sym of_code))
code-some W t InitialTaskEnd of_code comes = absurd (true≢false (sym of_code))
code-some W t (MemberBegin r k) of_code comes = absurd (true≢false (sym of_code))
code-some W t (MemberEnd r k) of_code comes = absurd (true≢false (sym of_code))
code-some W t (TaskBegin prior task) of_code comes = absurd (true≢false (sym of_code))
code-some W t (TaskEnd task) of_code comes = absurd (true≢false (sym of_code))
code-some W t (Dispatch share) of_code comes = absurd (true≢false (sym of_code))
code-some W t e of_code comes = comes.0.within.some

pub current-under_way : (W : World) (t : ℕ) → AreOrderly W → 1 ≤ current W t → IsUnderWay W t (current W t)
current-under_way W t orderly some = first-of (IsUnderWay W t) (thread_at W t).stack (orderly.stacked t) some

-- ---- what the pool has of a task that was made before

pub record KeptTask (now before : PoolTask) : Type 0 where
  pub parent : now.parent ≡ before.parent
  pub region : now.region ≡ before.region
  pub kind : now.kind ≡ before.kind

pub kept-same : (now before : PoolTask) → now ≡ before → KeptTask now before
kept-same now before is =
    record { parent = ap (λ (x : PoolTask). x.parent) is; region = ap (λ (x : PoolTask). x.region) is; kind = ap (λ (x : PoolTask). x.kind) is }

pub kept-either : (which : Bool) (one other : PoolTask) → KeptTask one other → KeptTask (if which then one else other) other
kept-either true one other kept = kept
kept-either false one other kept = record { parent = refl; region = refl; kind = refl }

pub kept-task : (W : World) (t : ℕ) (e : Event) (k : ℕ) → Comes W t e → k < length W.tasks → KeptTask (pooled_after W t e k) (pooled_at W k)
kept-task W t InitialTaskBegin k comes below =
    kept-either (k == INITIAL_TASK) (come_to (pooled_at W k) condition.Started) (pooled_at W k) (record { parent = refl; region = refl; kind = refl })
kept-task W t InitialTaskEnd k comes below =
    kept-either (k == INITIAL_TASK) (come_to (pooled_at W k) condition.Finished) (pooled_at W k) (record { parent = refl; region = refl; kind = refl })
kept-task W t (MemberBegin r task) k comes below =
    let next = comes.task in kept-same _ _ (rw (ne_eqb k task (λ is. omega (arith, is, next, below))) refl)
kept-task W t (MemberEnd r task) k comes below =
    kept-either (k == task) (come_to (pooled_at W k) condition.Finished) (pooled_at W k) (record { parent = refl; region = refl; kind = refl })
kept-task W t (TaskBegin prior task) k comes below =
    kept-either (k == task) (come_to (pooled_at W k) condition.Started) (pooled_at W k) (record { parent = refl; region = refl; kind = refl })
kept-task W t (TaskCreate task undeferred codeptr) k comes below =
    let next = comes.1 in kept-same _ _ (rw (ne_eqb k task (λ is. omega (arith, is, next, below))) refl)
kept-task W t e k comes below = record { parent = refl; region = refl; kind = refl }

-- ---- what such a task shows

-- .. numbered as before: what a Go changes of it is the region that the current task has forked, which has none open then
free-apart : (stand : Stand) → stand ≡ Free → stand ≢ AtFork
free-apart stand is at = cc

kept-forked : (W after : World) (t : ℕ) (e : Event) (k : ℕ) → AreCodes W → Comes W t e → Touches W after t e →
    ((task_at after k).forked ≡ (task_at W k).forked) ⊎ HasNoFork (opens_at W k)
kept-forked W after t (ParallelBegin r requested codeptr) k codes comes touches =
    elim (cases_eq k (current W t)) [
      | inl is ↦ inr (subst (λ j. HasNoFork (opens_at W j)) (sym is) (no-fork W (current W t) codes (free-apart _ comes.0.stand)))
      | inr other ↦ inl (touches.world.forked k ∙ rw (ne_eqb k (current W t) other) refl)
    ]
kept-forked W after t e k codes comes touches = inl (touches.world.forked k)

pub kept-numbered : (run : Run) (W after : World) (I : Inside) (past : List EventRecord) (t : ℕ) (e : Event) (k : ℕ) → Knows run W I past →
    Comes W t e → Touches W after t e →
    k < length W.tasks → NumberedAlike W after k
kept-numbered run W after I past t e k knows comes touches below =
    let kept = kept-task W t e k comes below in
    let pooled = touches.world.pooled k in
    record {
      brackets = brackets-alike W after k (ap (λ (x : PoolTask). x.region) pooled ∙ kept.region) (kept-forked W after t e k knows.codes comes touches);
      explicit = ap (λ (x : PoolTask). is_explicit x.kind) pooled ∙ ap is_explicit kept.kind;
    }

-- ---- tasks that haven't started

-- where there is no task, nothing is open and nothing is come to
pub none-opens : (W : World) (k : ℕ) → k ≡ length W.tasks → opens_at W k ≡ []
unfolding open_items open_calls
none-opens W k is = rw (get_or_past W.tasks k no_task (omega (arith, is))) refl

pub none-stand : (W : World) (k : ℕ) → k ≡ length W.tasks → stand_at W k ≡ Free
none-stand W k is = rw (get_or_past W.tasks k no_task (omega (arith, is))) refl

pub started-either : (which : Bool) (one other : PoolTask) → has_started one.condition ≡ true → has_started (if which then one else other).condition ≡ false →
    has_started other.condition ≡ false
started-either true one other started not = absurd (true≢false (sym started ∙ not))
started-either false one other started not = not

-- it hadn't started before either, or it is new
pub unstarted : (W : World) (t : ℕ) (e : Event) (k : ℕ) → Comes W t e → has_started (pooled_after W t e k).condition ≡ false →
    (has_started (pooled_at W k).condition ≡ false) ⊎ (k ≡ length W.tasks)
unstarted W t InitialTaskBegin k comes not = inl (started-either (k == INITIAL_TASK) (come_to (pooled_at W k) condition.Started) (pooled_at W k) refl not)
unstarted W t InitialTaskEnd k comes not = inl (started-either (k == INITIAL_TASK) (come_to (pooled_at W k) condition.Finished) (pooled_at W k) refl not)
unstarted W t (MemberBegin r task) k comes not =
    elim (cases_eq k task) [ inl is ↦ inr (is ∙ comes.task) | inr other ↦ inl (sym (rw (ne_eqb k task other) refl) ∙ not) ]
unstarted W t (MemberEnd r task) k comes not = inl (started-either (k == task) (come_to (pooled_at W k) condition.Finished) (pooled_at W k) refl not)
unstarted W t (TaskBegin prior task) k comes not = inl (started-either (k == task) (come_to (pooled_at W k) condition.Started) (pooled_at W k) refl not)
unstarted W t (TaskCreate task undeferred codeptr) k comes not =
    elim (cases_eq k task) [ inl is ↦ inr (is ∙ comes.1) | inr other ↦ inl (sym (rw (ne_eqb k task other) refl) ∙ not) ]
unstarted W t e k comes not = inl not

-- the current task isn't one of these
pub unstarted-apart : (W : World) (t k : ℕ) → IsMadeWorld W → AreOrderly W → 1 ≤ current W t →
    (has_started (pooled_at W k).condition ≡ false) ⊎ (k ≡ length W.tasks) →
    k ≡ current W t → ⊥
unstarted-apart W t k made orderly some (inl not) is =
    true≢false (sym (ap has_started (current-under_way W t orderly some).started) ∙ ap (λ j. has_started (pooled_at W j).condition) (sym is) ∙ not)
unstarted-apart W t k made orderly some (inr new) is = let below = (current-made W t made some).made.below in omega (arith, below, new, is)
