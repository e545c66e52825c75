-- What the events so far tell of one task, and how it grows.
use Rattle.std.proofs.Common.{ℕ, ◌≡◌, ◌≢◌, ◌==◌, ◌&&◌, ◌||◌, Bool, true, false, List, ◌∷◌, refl, sym, ap, ◌∙◌, subst}
use Rattle.std.specs.Prelude.{All, Option, Some, None}
use Rattle.std.specs.List.{list_any}
use Rattle.std.proofs.lemmas.Bool.{or_right, true≢false}
use Rattle.ompt_calls.specs.declared.event.EventRecord.{EventRecord}
use Rattle.task_pool.specs.declared.task.Condition.{Condition}
use Rattle.task_pool.specs.declared.task.Condition.TheVariants as condition
use Rattle.task_pool.specs.declared.task.Task.{Task as PoolTask}
use Rattle.task_pool.specs.Tasks.{is_explicit, no_task as no_pooled}
use Rattle.omp_model.specs.declared.event.Event.{Event}
use Rattle.omp_model.specs.declared.event.Event.TheVariants.{TaskCreate}
use Rattle.omp_model.specs.State.{World, pooled_at}
use Rattle.omp_model.specs.Conditions.{has_started}
use Rattle.omp_model.specs.EventEffects.{kind_of_task}
use Rattle.omp_model.proofs.Touching.{come_to}
use Rattle.nested_runs.proofs.Recorded.{Inside, recorded}
use Rattle.nested_runs.proofs.Readings.{completed_by, created_by, started_by}
use Rattle.nested_runs.proofs.Known.{IsOver, TellsTasks}
use Rattle.trace_check.specs.Before.{Creation, and_one, creations, has_started as was_started, is_complete, is_created, is_just}
use Rattle.nested_runs.proofs.CallReadings.{completed-is, creation-is, started-is}

-- ---- what is told of one task

-- who created a task is its parent
abbrev pub HasMaker : World → Creation → Type 0
HasMaker W creation = (pooled_at W creation.task).parent ≡ creation.creator

pub record TellsTask (past : List EventRecord) (k : ℕ) (task : PoolTask) : Type 0 where
  pub created : is_created k past ≡ is_explicit task.kind
  pub started : was_started k past ≡ (is_explicit task.kind && has_started task.condition)
  pub finished : is_explicit task.kind ≡ true → task.condition ≡ condition.Finished → is_complete k past ≡ true
  pub ready : task.condition ≡ condition.Ready → is_explicit task.kind ≡ true

-- what is told of each, and of all
pub told-of : (W : World) (I : Inside) (past : List EventRecord) → TellsTasks W I past → (k : ℕ) → TellsTask past k (pooled_at W k)
told-of W I past known k = record { created = known.created k; started = known.started k; finished = known.finished k; ready = known.ready k }

pub tells-each : (W : World) (I : Inside) (past : List EventRecord) → ((k : ℕ) → TellsTask past k (pooled_at W k)) →
    All (HasMaker W) (creations past) → ((t : ℕ) → IsOver past (I t)) → TellsTasks W I past
tells-each W I past each creators over =
    record {
      created = λ k. (each k).created;
      started = λ k. (each k).started;
      creators = creators;
      finished = λ k. (each k).finished;
      ready = λ k. (each k).ready;
      over = over;
    }

-- ---- how what is told of it grows

-- the explicit task that is made
abbrev pub made_by : Event → Option ℕ
made_by (TaskCreate task undeferred codeptr) = Some task
made_by other = None

-- a task more has been created
one-more : (W : World) (t : ℕ) (e : Event) (past : List EventRecord) (k : ℕ) →
    list_any (λ (creation : Creation). creation.task == k) (and_one (created_by W t e) (creations past)) ≡ (is_just k (made_by e) || is_created k past)
one-more W t (TaskCreate task undeferred codeptr) past k = refl
one-more W t other past k = refl

module _ (position t : ℕ) (W : World) (e : Event) (past : List EventRecord) (k : ℕ) where
  pub created-more : is_created k (recorded position t W e ∷ past) ≡ (is_just k (made_by e) || is_created k past)
  created-more = ap (λ c. list_any (λ (creation : Creation). creation.task == k) (and_one c (creations past))) (creation-is W t e) ∙ one-more W t e past k

  pub started-more : was_started k (recorded position t W e ∷ past) ≡ (is_just k (started_by e) || was_started k past)
  started-more = ap (λ one. is_just k one || was_started k past) (started-is W t e)

  pub complete-more : is_complete k (recorded position t W e ∷ past) ≡ (is_just k (completed_by e) || is_complete k past)
  complete-more = ap (λ one. is_just k one || is_complete k past) (completed-is W t e)

  -- what is told of the task stays, where it isn't made and doesn't start
  pub same-told : (task : PoolTask) → is_just k (made_by e) ≡ false → is_just k (started_by e) ≡ false → TellsTask past k task →
      TellsTask (recorded position t W e ∷ past) k task
  same-told task unmade unstarted known =
      record {
        created = created-more ∙ (ap (λ b. b || is_created k past) unmade ∙ known.created);
        started = started-more ∙ (ap (λ b. b || was_started k past) unstarted ∙ known.started);
        finished = λ explicit finished. complete-more ∙ or_right (is_just k (completed_by e)) _ (known.finished explicit finished);
        ready = known.ready;
      }

-- a task that isn't explicit comes further
pub plain-told : (past : List EventRecord) (k : ℕ) (task : PoolTask) (now : Condition) → is_explicit task.kind ≡ false → now ≢ condition.Ready →
    TellsTask past k task →
    TellsTask past k (come_to task now)
plain-told past k task now plain unready known =
    record {
      created = known.created;
      started = known.started ∙ rw plain refl;
      finished = λ explicit finished. absurd (true≢false (sym explicit ∙ plain));
      ready = λ ready. absurd (unready ready);
    }

-- none was told of where there was none
pub nothing-told : (past : List EventRecord) (k : ℕ) (task : PoolTask) → task ≡ no_pooled → TellsTask past k task → TellsTask past k no_pooled
nothing-told past k task none known = subst (TellsTask past k) none known

pub kind-explicit : (undeferred : Bool) → is_explicit (kind_of_task undeferred) ≡ true
kind-explicit true = refl
kind-explicit false = refl
