-- After each history the tasks are orderly.
use Rattle.std.proofs.Common.{◌≡◌, ℕ, zero, suc, ◌+◌, ◌-◌, ◌≤◌, List, [], ◌∷◌, slice_set, slice_index_or, refl, sym, ap, ◌∙◌, subst, inl, inr, arith}
use Rattle.std.specs.Prelude.{Option, Some, None}
use Rattle.std.proofs.lemmas.Bool.{cases_eq}
use Rattle.std.proofs.lemmas.List.{get_or-set_other}
use Rattle.std.proofs.lemmas.List.Elements.{All-nil}
use Rattle.task_pool.specs.declared.task.Task.{Task as PoolTask}
use Rattle.task_pool.specs.declared.task.TaskKind.TheVariants as kind
use Rattle.task_pool.specs.Tasks.{no_task as no_pool_task}
use Rattle.ompt_calls.specs.declared.snapshot.Target.{Target}
use Rattle.omp_model.specs.declared.history.What.{What}
use Rattle.omp_model.specs.declared.history.What.TheVariants.{Go, Put, Back}
use Rattle.omp_model.specs.declared.history.Entry.{Entry}
use Rattle.omp_model.specs.declared.limits.TheConstants.{INITIAL_TASK}
use Rattle.omp_model.specs.declared.event.Callback.{Callback}
use Rattle.omp_model.specs.declared.event.Event.{Event}
use Rattle.omp_model.specs.declared.event.Outcome.{Outcome}
use Rattle.omp_model.specs.declared.event.Outcome.TheVariants as outcome
use Rattle.omp_model.specs.State.{Run, State, Thread, World, first, first_world, pending_at, pooled_at, thread_at, unmade}
use Rattle.omp_model.proofs.Alike.{QuietWorld}
use Rattle.omp_model.specs.Words.{stored}
use Rattle.omp_model.specs.Turn.{called, goes_on, turn, walk}
use Rattle.omp_model.specs.Legal.{after, back_from, does, put_from}
use Rattle.omp_model.specs.MadeWorld.{IsMadeState, IsMadeWorld, MadePending}
use Rattle.omp_model.specs.Conditions.{AreOrderly, EventOrderly, IsOrderly, IsUnderWay, PendingOrderly}
use Rattle.omp_model.proofs.Later.{at-set}
use Rattle.omp_model.proofs.AlikeWorlds.{alike-stored, made-alike, quiet-turn, quiet-walk, still-alike}
use Rattle.omp_model.proofs.MadeWords.{pool-at}
use Rattle.omp_model.proofs.MadeRuns.{at-replicate, first-made, state-does}
use Rattle.omp_model.proofs.Arriving.{Arrives, arrives, thread-goes}
use Rattle.omp_model.proofs.Turning.{Beside, GoFrom, GoOf, OfCode, Turned, of-entries}
use Rattle.omp_model.proofs.Turns.{Leaves, leaves-turn}
use Rattle.omp_model.proofs.Conditions.{OrderlyAfter, Still, after-still, event-still, orderly-still, orderly-then}
use Rattle.omp_model.proofs.OrderlyEvents.{OrderlyGo, OrderlyGoing, back-orderly, beside-orderly, in_code-orderly}

-- A turn.

go-orderly : (run : Run) (W after : World) (t : ℕ) (e : Event) → AreOrderly W → IsMadeWorld W → GoOf run W t e after → OrderlyGo W after t e
go-orderly run W after t e all made (OfCode comes happens) =
    subst (OrderlyGoing W t) happens (in_code-orderly run W t all made ((subst (Arrives W t) comes (arrives W t)).within.some))
go-orderly run W after t e all made (Beside meets happens) =
    subst (OrderlyGoing W t) happens (beside-orderly W t e all made (thread-goes W t (ap goes_on meets)) (subst (Arrives W t) meets (arrives W t)))

go-from : (run : Run) (W after : World) (t : ℕ) (e : Event) → AreOrderly W → IsMadeWorld W → GoFrom run (QuietWorld t W) t e after → OrderlyGo W after t e
go-from run W after t e all made from =
    let before = after-still t W from.before all (still-alike W from.before from.holds.alike) in
    let go = go-orderly run from.before after t e before.world (made-alike W from.before from.holds.alike made).world from.go in
    record { whole = orderly-then t W from.before after before go.whole; occurred = go.occurred }

abbrev OrderlyTurn : World → ℕ → World → Outcome → Type 0
OrderlyTurn W t after (outcome.Happens e) = OrderlyGo W after t e
OrderlyTurn W t after other = Still W after

turned : (run : Run) (W after : World) (t : ℕ) (came : Outcome) → AreOrderly W → IsMadeWorld W →
    Turned run (QuietWorld t W) t after came → OrderlyTurn W t after came
turned run W after t (outcome.Happens e) all made so = go-from run W after t e all made so
turned run W after t outcome.Idle all made so = still-alike W after so.alike
turned run W after t outcome.Quiet all made so = still-alike W after so.alike
turned run W after t (outcome.Halts halt) all made so = still-alike W after so.alike

turn-orderly : (run : Run) (S : State) (t : ℕ) → AreOrderly S.world → IsMadeWorld S.world → OrderlyTurn S.world t (turn run S t).state.world (turn run S t).outcome
turn-orderly run S t all made = turned run S.world (turn run S t).state.world t (turn run S t).outcome all made (quiet-turn run t S)

-- States.

pending-after : (W later : World) (t : ℕ) (callback : Option Callback) → ((e : Event) → EventOrderly W t e → EventOrderly later t e) → PendingOrderly W t callback → PendingOrderly later t callback
pending-after W later t None keeps so = tt
pending-after W later t (Some callback) keeps so = keeps callback.event so

-- what is written, or the default where there is no such place
at-written : {A : Type 0} (P : A → Type 0) (d : A) (xs : List A) (i : ℕ) (x : A) → P d → P x → P (slice_index_or (slice_set xs i x) i d)
at-written P d [] i x none new = none
at-written P d (y ∷ ys) zero x none new = new
at-written P d (y ∷ ys) (suc i) x none new = at-written P d ys i x none new

module _ (S : State) (all : IsOrderly S) where
  -- the thread is inside this callback now, or inside none
  state-changed : (t : ℕ) (callback : Option Callback) (next : State) → OrderlyAfter t S.world next.world → PendingOrderly next.world t callback → next.pending ≡ slice_set S.pending t callback → IsOrderly next
  state-changed t callback next so one pending =
      let each : (u : ℕ) → PendingOrderly next.world u (slice_index_or (slice_set S.pending t callback) u None) = λ u. elim (cases_eq u t) [
        | inl is ↦ subst (λ v. PendingOrderly next.world v (slice_index_or (slice_set S.pending t callback) v None)) (sym is) (at-written (PendingOrderly next.world t) None S.pending t callback tt one)
        | inr other ↦ rw (get_or-set_other S.pending t u callback None other) (pending-after S.world next.world u (pending_at S u) (so.others u other) (all.pending u))
      ] in
      record { world = so.world; pending = rw pending each }

  state-still : (next : State) → Still S.world next.world → next.pending ≡ S.pending → IsOrderly next
  state-still next still pending =
      let each : (u : ℕ) → PendingOrderly next.world u (slice_index_or S.pending u None) = λ u. pending-after S.world next.world u (pending_at S u) (event-still S.world next.world still u) (all.pending u) in
      record { world = orderly-still S.world next.world still all.world; pending = rw pending each }

  state-turned : (t : ℕ) (next : State) (came : Outcome) → OrderlyTurn S.world t next.world came → Leaves S t next came → IsOrderly next
  state-turned t next (outcome.Happens e) so leaves = state-changed t (Some (called e)) next so.whole so.occurred leaves.2
  state-turned t next outcome.Idle so leaves = state-still next so leaves.2
  state-turned t next outcome.Quiet so leaves = state-still next so leaves.2
  state-turned t next (outcome.Halts halt) so leaves = state-still next so leaves.2

  state-back : (t : ℕ) (callback : Option Callback) → IsMadeWorld S.world → MadePending S.world t callback → PendingOrderly S.world t callback → IsOrderly (back_from S t callback)
  state-back t None made was so = all
  state-back t (Some callback) made was so = state-changed t None (back_from S t (Some callback)) (back-orderly S.world t callback.event all.world made was so) tt refl

  state-put : (t : ℕ) (place : Target) (word : ℕ) (callback : Option Callback) → PendingOrderly S.world t callback → IsOrderly (put_from S t place word callback)
  state-put t place word None so = all
  state-put t place word (Some callback) so =
      let W = stored S.world place word in
      let still = still-alike S.world W (alike-stored S.world place word) in
      let next : Callback = record callback { stores = callback.stores + 1 } in
      record {
        world = orderly-still S.world W still all.world;
        pending = λ u. at-set (PendingOrderly W u) None S.pending t u (Some next) (pending-after S.world W u (pending_at S u) (event-still S.world W still u) (all.pending u))
            (λ is. subst (λ v. PendingOrderly W v (Some next)) (sym is) (event-still S.world W still t callback.event so));
      }

-- a state in which all that is named was made, and the tasks are orderly
pub record IsSound (run : Run) (S : State) : Type 0 where
  pub made : IsMadeState run S
  pub orderly : IsOrderly S

orderly-does : (run : Run) (S : State) → IsSound run S → (t : ℕ) (what : What) → IsOrderly (does run S t what)
orderly-does run S so t Go = state-turned S so.orderly t (turn run S t).state (turn run S t).outcome (turn-orderly run S t so.orderly.world so.made.world) (leaves-turn run S t)
orderly-does run S so t (Put place word) = state-put S so.orderly t place word (pending_at S t) (so.orderly.pending t)
orderly-does run S so t Back = state-back S so.orderly t (pending_at S t) so.made.world (so.made.pending t) (so.orderly.pending t)

-- The first state.

record NoTasks (thread : Thread) : Type 0 where
  stack : thread.stack ≡ []
  undeferred : thread.undeferred ≡ 0

first-idle : (run : Run) (t : ℕ) → NoTasks (thread_at (first_world run) t)
first-idle run zero = record { stack = refl; undeferred = refl }
first-idle run (suc t) = at-replicate NoTasks (run.threads - 1) t unmade (record { stack = refl; undeferred = refl })

first-alone : (run : Run) (k : ℕ) → (pooled_at (first_world run) k).kind ≡ kind.Initial → k ≡ INITIAL_TASK
first-alone run zero is = cc
first-alone run (suc zero) is = refl
first-alone run (suc (suc k)) is =
    let tasks = (first_world run).pool.tasks in
    let implicit : (slice_index_or tasks (suc k) no_pool_task).kind ≡ kind.Initial = ap (λ (x : PoolTask). x.kind) (sym (pool-at tasks (suc k))) ∙ is in
    cc

first-orderly : (run : Run) → IsOrderly (first run)
first-orderly run =
    record {
      world = record {
        stacked = λ t. rw (first-idle run t).stack (All-nil (IsUnderWay (first_world run) t));
        distinct = λ t. rw (first-idle run t).stack tt;
        ready = All-nil _;
        starts = λ t some. let none = (first-idle run t).undeferred in absurd (omega arith);
        initial = refl;
        alone = first-alone run;
      };
      pending = λ t. at-replicate (PendingOrderly (first_world run) t) run.threads t None tt;
    }

-- Histories.

pub sound-does : (run : Run) (S : State) → IsSound run S → (t : ℕ) (what : What) → IsSound run (does run S t what)
sound-does run S so t what = record { made = state-does run S so.made t what; orderly = orderly-does run S so t what }

pub first-sound : (run : Run) → 1 ≤ run.threads → IsSound run (first run)
first-sound run there = record { made = first-made run there; orderly = first-orderly run }

sound-after : (run : Run) (history : List Entry) → 1 ≤ run.threads → IsSound run (after run history)
sound-after run history there = of-entries run (IsSound run) (λ S entry so. sound-does run S so entry.thread entry.what) (first run) history (first-sound run there)

module _ (run : Run) (history : List Entry) (there : 1 ≤ run.threads) where
  pub orderly-after : IsOrderly (after run history)
  orderly-after = (sound-after run history there).orderly

  -- after silent steps of a thread
  pub orderly-walk : (t count : ℕ) → AreOrderly (walk run count 0 (after run history) t).state.world
  orderly-walk t count =
      let S = after run history in
      let last = (walk run count 0 S t).state.world in
      orderly-still S.world last (still-alike S.world last (quiet-walk run t count 0 S).alike) orderly-after.world
