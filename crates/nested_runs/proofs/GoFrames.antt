-- What the Go of an event leaves as it is: what was made before it, the other threads, and the tasks on stacks.
use Rattle.std.proofs.Common.{ℕ, ◌≡◌, ◌≢◌, ◌<◌, ◌≤◌, ◌==◌, ◌⊎◌, Bool, true, false, if◌then◌else◌, [], ◌∷◌, length, refl, sym, ap, ◌∙◌, subst, inl, inr, arith}
use Rattle.std.proofs.lemmas.Bool.{cases_eq, cases_Bool, eqb-true, ne_eqb}
use Rattle.c_brackets.specs.Opened.{Open}
use Rattle.task_pool.specs.declared.task.Condition.{Condition}
use Rattle.task_pool.specs.declared.task.Condition.TheVariants as condition
use Rattle.task_pool.specs.declared.task.Task.{Task as PoolTask}
use Rattle.omp_model.specs.declared.limits.TheConstants.{IMPLICIT_REGION, INITIAL_TASK}
use Rattle.omp_model.specs.declared.parts.RegionHead.{RegionHead}
use Rattle.omp_model.specs.declared.event.Event.{Event}
use Rattle.omp_model.specs.declared.event.Event.TheVariants.{Dispatch, InitialTaskBegin, InitialTaskEnd, MemberBegin, MemberEnd, ParallelBegin, ParallelEnd, TaskBegin, TaskCreate, TaskEnd, ThreadBegin, ThreadEnd}
use Rattle.omp_model.specs.State.{Thread, World, pooled_at, region_at, task_at, thread_at}
use Rattle.omp_model.specs.Members.{current}
use Rattle.omp_model.specs.Conditions.{AreOrderly, IsUnderWay}
use Rattle.omp_model.specs.MadeWorld.{IsMadeWorld, IsTaskOf}
use Rattle.omp_model.proofs.Touching.{come_to, head_after, is_of_code, owner_after, pooled_after, regions_after, tasks_after, thread_after}
use Rattle.nested_runs.proofs.Coming.{Comes, ComesToTask}
use Rattle.nested_runs.proofs.Shown.{opens_at}
use Rattle.nested_runs.proofs.Standing.{stand_at}
use Rattle.nested_runs.proofs.Standing.Stand.{AtFork}
use Rattle.nested_runs.proofs.Touching.{AreCodes, Touches}
use Rattle.nested_runs.proofs.Known.{stands_on}
use Rattle.nested_runs.proofs.Codes.{newest-fork}
use Rattle.nested_runs.proofs.Chains.{Grown, all-on, apart-currents, on-popped, on-pushed}
use Rattle.nested_runs.proofs.Errands.{LikeThread}

-- ---- what was made

tasks-more : (e : Event) (count : ℕ) → count ≤ tasks_after e count
tasks-more (MemberBegin r k) count = omega arith
tasks-more (TaskCreate task undeferred codeptr) count = omega arith
tasks-more other count = omega arith

regions-more : (e : Event) (count : ℕ) → count ≤ regions_after e count
regions-more (ParallelBegin r requested codeptr) count = omega arith
regions-more other count = omega arith

-- a task that comes further stays of its kind and region
pub record SameKind (task after : PoolTask) : Type 0 where
  pub kind : after.kind ≡ task.kind
  pub region : after.region ≡ task.region

same-kind : (task : PoolTask) → SameKind task task
same-kind task = record { kind = refl; region = refl }

pub come-kind : (is : Bool) (task : PoolTask) (now : Condition) → SameKind task (if is then come_to task now else task)
come-kind true task now = record { kind = refl; region = refl }
come-kind false task now = same-kind task

-- what is new isn't among what was made
other-kind : (made : Bool) (task other : PoolTask) → made ≡ false → SameKind task (if made then other else task)
other-kind true task other is = cc
other-kind false task other is = same-kind task

kind-after : (W : World) (t : ℕ) (e : Event) (k : ℕ) → Comes W t e → k < length W.tasks → SameKind (pooled_at W k) (pooled_after W t e k)
kind-after W t InitialTaskBegin k comes below = come-kind (k == INITIAL_TASK) (pooled_at W k) condition.Started
kind-after W t InitialTaskEnd k comes below = come-kind (k == INITIAL_TASK) (pooled_at W k) condition.Finished
kind-after W t (MemberBegin r task) k comes below = other-kind (k == task) (pooled_at W k) _ (ne_eqb k task (λ is. omega (arith, comes.task)))
kind-after W t (MemberEnd r task) k comes below = come-kind (k == task) (pooled_at W k) condition.Finished
kind-after W t (TaskCreate task undeferred codeptr) k comes below = other-kind (k == task) (pooled_at W k) _ (ne_eqb k task (λ is. omega (arith, comes.1)))
kind-after W t (TaskBegin prior task) k comes below = come-kind (k == task) (pooled_at W k) condition.Started
kind-after W t other k comes below = same-kind (pooled_at W k)

-- a head to which something is written keeps its task
head-either : (is : Bool) (head other : RegionHead) → (is ≡ true → other.task ≡ head.task) → (if is then other else head).task ≡ head.task
head-either true head other same = same refl
head-either false head other same = refl

head-task : (W : World) (t : ℕ) (e : Event) (q : ℕ) → Comes W t e → q < length W.regions → (head_after W t e q).task ≡ (region_at W q).head.task
head-task W t (ParallelBegin r requested codeptr) q comes below =
    head-either (q == r) (region_at W q).head _ (λ is. absurd (omega (arith, comes.1.region, eqb-true q r is)))
head-task W t (ParallelEnd r codeptr) q comes below = head-either (q == r) (region_at W q).head _ (λ is. refl)
head-task W t InitialTaskBegin q comes below = head-either (q == IMPLICIT_REGION) (region_at W q).head _ (λ is. refl)
head-task W t (MemberBegin r k) q comes below = head-either (q == r) (region_at W q).head _ (λ is. refl)
head-task W t other q comes below = refl

pub grown-go : (W after : World) (t : ℕ) (e : Event) → Comes W t e → Touches W after t e → Grown W after
grown-go W after t e comes touches =
    record {
      tasks = omega (arith, tasks-more e (length W.tasks), touches.world.tasks);
      regions = omega (arith, regions-more e (length W.regions), touches.world.regions);
      kind = λ k below. ap (λ (x : PoolTask). x.kind) (touches.world.pooled k) ∙ (kind-after W t e k comes below).kind;
      region = λ k below. ap (λ (x : PoolTask). x.region) (touches.world.pooled k) ∙ (kind-after W t e k comes below).region;
      task = λ q below. ap (λ (x : RegionHead). x.task) (touches.world.head q) ∙ head-task W t e q comes below;
    }

-- ---- other threads

-- an event of the code is one of a task
pub in-code-some : (W : World) (t : ℕ) (e : Event) → Comes W t e → is_of_code e ≡ true → 1 ≤ current W t
in-code-some W t ThreadBegin comes code = cc
in-code-some W t ThreadEnd comes code = cc
in-code-some W t InitialTaskBegin comes code = cc
in-code-some W t InitialTaskEnd comes code = cc
in-code-some W t (MemberBegin r k) comes code = cc
in-code-some W t (MemberEnd r k) comes code = cc
in-code-some W t (TaskBegin prior task) comes code = cc
in-code-some W t (TaskEnd task) comes code = cc
in-code-some W t (Dispatch share) comes code = cc
in-code-some W t other comes code = comes.0.within.some

module _ (W after : World) (t : ℕ) (e : Event) (orderly : AreOrderly W) (comes : Comes W t e) (touches : Touches W after t e) where
  other-code : (u : ℕ) → (u ≡ t → ⊥) → is_of_code e ≡ true → current W u ≡ current W t → ⊥
  other-code u other code is = apart-currents W t u orderly (in-code-some W t e comes code) other is

  pub like-other : (u : ℕ) → (u ≡ t → ⊥) → LikeThread W after u
  like-other u other =
      let same = touches.world.others u other in
      let stands = touches.stands (current W u) (other-code u other) in
      record {
        stack = ap (λ (x : Thread). x.stack) same;
        invited = ap (λ (x : Thread). x.invited) same;
        undeferred = ap (λ (x : Thread). x.undeferred) same;
        free = λ is. stands ∙ is;
        apart = λ apart is. apart (sym stands ∙ is);
        opens = touches.opens (current W u) (other-code u other);
      }

  pub taken-other : (u : ℕ) → (u ≡ t → ⊥) → (thread_at after u).taken ≡ (thread_at W u).taken
  taken-other u other = ap (λ (x : Thread). x.taken) (touches.world.others u other)

  -- where codes stand, but for that of the current task at an event of it
  pub stands-apart : (k : ℕ) → ((is_of_code e ≡ true) × (k ≡ current W t)) ⊎ (stand_at after k ≡ stand_at W k)
  stands-apart k =
      elim (cases_eq k (current W t)) [
        | inr other ↦ inr (touches.stands k (λ code is. other is))
        | inl same ↦ elim (cases_Bool (is_of_code e)) [
          | inl code ↦ inl (code, same)
          | inr beside ↦ inr (touches.stands k (λ code is. cc))
        ]
      ]

-- ---- stacks

-- a task that ends stands at no region's end
ended-apart : (W : World) (k : ℕ) → AreCodes W → opens_at W k ≡ [] → stand_at W k ≢ AtFork
ended-apart W k codes closed at =
    let newest = newest-fork W k codes at in
    let none : (Open.Forks ∷ newest.older) ≡ [] = sym newest.are ∙ closed in
    cc

-- the stack of the event's thread keeps the tasks that stand at a region's end
stack-keeps : (W : World) (t : ℕ) (e : Event) (k : ℕ) → AreCodes W → Comes W t e → stand_at W k ≡ AtFork → stands_on k (thread_at W t).stack ≡ true →
    stands_on k (thread_after e (thread_at W t)).stack ≡ true
stack-keeps W t InitialTaskBegin k codes comes at on = on-pushed k INITIAL_TASK (thread_at W t).stack on
stack-keeps W t InitialTaskEnd k codes comes at on =
    on-popped k (thread_at W t).stack on (λ is. ended-apart W INITIAL_TASK codes comes.closed (ap (stand_at W) (sym comes.task ∙ is) ∙ at))
stack-keeps W t (MemberBegin r task) k codes comes at on = on-pushed k task (thread_at W t).stack on
stack-keeps W t (MemberEnd r task) k codes comes at on =
    on-popped k (thread_at W t).stack on (λ is. ended-apart W task codes comes.closed (ap (stand_at W) (comes.task ∙ is) ∙ at))
stack-keeps W t (TaskBegin prior task) k codes comes at on = on-pushed k task (thread_at W t).stack on
stack-keeps W t (TaskEnd task) k codes comes at on =
    on-popped k (thread_at W t).stack on (λ is. ended-apart W task codes comes.closed (ap (stand_at W) (comes.task ∙ is) ∙ at))
stack-keeps W t other k codes comes at on = on

-- what is taken up hadn't started
owner-either : (is : Bool) (t owner : ℕ) → (is ≡ true → ⊥) → (if is then t else owner) ≡ owner
owner-either true t owner other = absurd (other refl)
owner-either false t owner other = refl

pub picks-unstarted : (W : World) (t prior k : ℕ) → AreOrderly W → ComesToTask W t prior k → (pooled_at W k).condition ≡ condition.Started → ⊥
picks-unstarted W t prior k orderly comes started =
    elim comes.picks [
      | inl ready ↦ let is = ready.ready in cc
      | inr own ↦ let is = (orderly.starts t (omega (arith, own.task, comes.some))).made in
          let made : (pooled_at W k).condition ≡ condition.Made = ap (λ j. (pooled_at W j).condition) (sym own.task) ∙ is in
          cc
    ]

owner-keeps : (W : World) (t : ℕ) (e : Event) (k owner : ℕ) → AreOrderly W → Comes W t e → k < length W.tasks →
    (pooled_at W k).condition ≡ condition.Started → owner_after t e k owner ≡ owner
owner-keeps W t InitialTaskBegin k owner orderly comes below started =
    owner-either (k == INITIAL_TASK) t owner (λ is. let same = ap (λ j. (pooled_at W j).condition) (eqb-true k INITIAL_TASK is) in let made = comes.made in cc)
owner-keeps W t (MemberBegin r task) k owner orderly comes below started =
    owner-either (k == task) t owner (λ is. omega (arith, comes.task, eqb-true k task is))
owner-keeps W t (TaskBegin prior task) k owner orderly comes below started =
    owner-either (k == task) t owner (λ is. picks-unstarted W t prior task orderly comes
    (ap (λ j. (pooled_at W j).condition) (sym (eqb-true k task is)) ∙ started))
owner-keeps W t other k owner orderly comes below started = refl

-- a task at a region's end stands on its thread's stack still
pub stacked-go : (W after : World) (t : ℕ) (e : Event) (k : ℕ) → IsMadeWorld W → AreOrderly W → AreCodes W → Comes W t e → Touches W after t e →
    stand_at W k ≡ AtFork →
    stands_on k (thread_at W (task_at W k).thread).stack ≡ true → stands_on k (thread_at after (task_at after k).thread).stack ≡ true
stacked-go W after t e k made orderly codes comes touches at on =
    subst (λ u. stands_on k (thread_at after u).stack ≡ true) (sym same) (elim (cases_eq owner t) [
      | inl own ↦ subst (λ u. stands_on k (thread_at after u).stack ≡ true) (sym own)
          (subst (λ (x : Thread). stands_on k x.stack ≡ true) (sym touches.world.own)
          (stack-keeps W t e k codes comes at (subst (λ u. stands_on k (thread_at W u).stack ≡ true) own on)))
      | inr other ↦ subst (λ (x : Thread). stands_on k x.stack ≡ true) (sym (touches.world.others owner other)) on
    ])
  where
    owner : ℕ
    owner = (task_at W k).thread

    same : (task_at after k).thread ≡ owner
    same =
        touches.world.owner k
        ∙ owner-keeps W t e k owner orderly comes (all-on (IsTaskOf W owner) k (thread_at W owner).stack (made.threads owner).stacked on).made.below
        (all-on (IsUnderWay W owner) k (thread_at W owner).stack (orderly.stacked owner) on).started
