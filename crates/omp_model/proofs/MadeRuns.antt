-- After each history all that a state names was made.
use Rattle.std.proofs.Common.{◌≡◌, ℕ, zero, suc, ◌+◌, ◌-◌, ◌<◌, ◌≤◌, List, replicate, slice_set, slice_index_or, length, refl, sym, ap, ◌∙◌, subst, arith}
use Rattle.std.specs.Prelude.{Option, Some, None}
use Rattle.std.proofs.lemmas.List.{length-replicate, length-set}
use Rattle.std.proofs.lemmas.List.Elements.{All-nil}
use Rattle.ompt_calls.specs.declared.snapshot.Target.{Target}
use Rattle.omp_model.specs.declared.history.What.{What}
use Rattle.omp_model.specs.declared.history.What.TheVariants.{Go, Put, Back}
use Rattle.omp_model.specs.declared.history.Entry.{Entry}
use Rattle.omp_model.specs.declared.event.Callback.{Callback}
use Rattle.omp_model.specs.declared.event.Event.{Event}
use Rattle.omp_model.specs.declared.event.Outcome.{Outcome}
use Rattle.omp_model.specs.declared.event.Outcome.TheVariants as outcome
use Rattle.omp_model.specs.State.{Run, State, World, first, first_world, pending_at, region_at, task_at, thread_at, unmade}
use Rattle.omp_model.specs.Members.{region_of}
use Rattle.omp_model.proofs.Alike.{QuietWorld}
use Rattle.omp_model.specs.Changes.{with_masked_skipped}
use Rattle.omp_model.specs.Returning.{at_back}
use Rattle.omp_model.specs.Words.{stored}
use Rattle.omp_model.specs.Turn.{called, goes_on, turn}
use Rattle.omp_model.specs.Legal.{after, back_from, does, put_from}
use Rattle.omp_model.specs.MadeWorld.{IsIdentity, IsMadeState, IsMadeWorld, MadePending, MadeRegion, MadeThread}
use Rattle.omp_model.proofs.Later.{Later, at-set}
use Rattle.omp_model.proofs.AlikeWorlds.{alike-past, quiet-turn, made-alike}
use Rattle.omp_model.proofs.MadeWords.{MadeAfter, after-then}
use Rattle.omp_model.proofs.MadeEvents.{MadeGo, MadeGoing, back-made, beside-made, coming, current-made, in_code-made, occurred-later, stored-made}
use Rattle.omp_model.proofs.Arriving.{Arrives, arrives, thread-goes}
use Rattle.omp_model.proofs.Turning.{GoFrom, GoOf, OfCode, Beside, Turned, of-entries}
use Rattle.omp_model.proofs.Turns.{Leaves, leaves-turn}

-- A turn.

-- the Go of an event
go-made : (run : Run) (W after : World) (t : ℕ) (e : Event) → IsMadeWorld W → GoOf run W t e after → MadeGo W after t e
go-made run W after t e made (OfCode comes happens) =
    subst (MadeGoing W t) happens (in_code-made run W t made (thread-goes W t (ap goes_on comes)) (current-made W t made ((subst (Arrives W t) comes (arrives W t)).within.some)))
go-made run W after t e made (Beside meets happens) =
    subst (MadeGoing W t) happens (beside-made W t e made (thread-goes W t (ap goes_on meets)) (coming W t made e (subst (Arrives W t) meets (arrives W t))))

-- .. from the world after silent steps
go-from : (run : Run) (W after : World) (t : ℕ) (e : Event) → IsMadeWorld W → GoFrom run (QuietWorld t W) t e after → MadeGo W after t e
go-from run W after t e made from =
    let before = made-alike W from.before from.holds.alike made in
    let go = go-made run from.before after t e before.world from.go in
    record { whole = after-then W from.before after made before go.whole; occurred = go.occurred }

-- what is so after a turn with this outcome
abbrev pub MadeTurn : World → ℕ → World → Outcome → Type 0
MadeTurn W t after (outcome.Happens e) = MadeGo W after t e
MadeTurn W t after other = MadeAfter W after

turned : (run : Run) (W after : World) (t : ℕ) (came : Outcome) → IsMadeWorld W → Turned run (QuietWorld t W) t after came → MadeTurn W t after came
turned run W after t (outcome.Happens e) made so = go-from run W after t e made so
turned run W after t outcome.Idle made so = made-alike W after so.alike made
turned run W after t outcome.Quiet made so = made-alike W after so.alike made
turned run W after t (outcome.Halts halt) made so = made-alike W after so.alike made

pub turn-made : (run : Run) (S : State) (t : ℕ) → IsMadeWorld S.world → MadeTurn S.world t (turn run S t).state.world (turn run S t).outcome
turn-made run S t made = turned run S.world (turn run S t).state.world t (turn run S t).outcome made (quiet-turn run t S)

-- what a task goes past
pub past-made : (W : World) (t : ℕ) → IsMadeWorld W → IsMadeWorld (with_masked_skipped W t)
past-made W t made = (made-alike W (with_masked_skipped W t) (alike-past W t) made).world

-- States.

-- a pending event still is of what was made
pending-later : (W later : World) (t : ℕ) (callback : Option Callback) → IsMadeWorld W → Later W later → MadePending W t callback → MadePending later t callback
pending-later W later t None made so one = tt
pending-later W later t (Some callback) made so one = occurred-later W later t callback.event made so one

module _ (run : Run) (S : State) (all : IsMadeState run S) where
  -- the world comes to a later one, and the thread is inside this callback, or inside none
  state-made : (W : World) (t : ℕ) (callback : Option Callback) (next : State) → MadeAfter S.world W → MadePending W t callback → next.world ≡ W → next.pending ≡ slice_set S.pending t callback → IsMadeState run next
  state-made W t callback next so one world pending =
      let each : (u : ℕ) → MadePending W u (slice_index_or (slice_set S.pending t callback) u None) = λ u. at-set (MadePending W u) None S.pending t u callback (pending-later S.world W u (pending_at S u) all.world so.later (all.pending u)) (λ is. subst (λ v. MadePending W v callback) (sym is) one) in
      record {
        threads = rw world (so.later.threads ∙ all.threads);
        places = rw pending (length-set S.pending t callback ∙ all.places);
        world = rw world so.world;
        pending = rw (world, pending) each;
      }

  -- the world comes to a later one
  state-later : (next : State) → MadeAfter S.world next.world → next.pending ≡ S.pending → IsMadeState run next
  state-later next so pending =
      let each : (u : ℕ) → MadePending next.world u (slice_index_or S.pending u None) = λ u. pending-later S.world next.world u (pending_at S u) all.world so.later (all.pending u) in
      record { threads = so.later.threads ∙ all.threads; places = rw pending all.places; world = so.world; pending = rw pending each }

  state-turned : (t : ℕ) (next : State) (came : Outcome) → MadeTurn S.world t next.world came → Leaves S t next came → IsMadeState run next
  state-turned t next (outcome.Happens e) so leaves = state-made next.world t (Some (called e)) next so.whole so.occurred refl leaves.2
  state-turned t next outcome.Idle so leaves = state-later next so leaves.2
  state-turned t next outcome.Quiet so leaves = state-later next so leaves.2
  state-turned t next (outcome.Halts halt) so leaves = state-later next so leaves.2

  pub state-turn : (t : ℕ) → IsMadeState run (turn run S t).state
  state-turn t = state-turned t (turn run S t).state (turn run S t).outcome (turn-made run S t all.world) (leaves-turn run S t)

  pub state-back : (t : ℕ) (callback : Option Callback) → MadePending S.world t callback → IsMadeState run (back_from S t callback)
  state-back t None one = all
  state-back t (Some callback) one =
      let W = at_back S.world t callback.event in state-made W t None (back_from S t (Some callback)) (back-made S.world t callback.event all.world one.named) tt refl refl

  pub state-put : (t : ℕ) (place : Target) (word : ℕ) (callback : Option Callback) → MadePending S.world t callback → IsMadeState run (put_from S t place word callback)
  state-put t place word None one = all
  state-put t place word (Some callback) one =
      let W = stored S.world place word in
      let so = stored-made S.world place word all.world in
      state-made W t (Some (record callback { stores = callback.stores + 1 })) (put_from S t place word (Some callback)) so (occurred-later S.world W t callback.event all.world so.later one) refl refl

  pub state-does : (t : ℕ) (what : What) → IsMadeState run (does run S t what)
  state-does t Go = state-turn t
  state-does t (Put place word) = state-put t place word (pending_at S t) (all.pending t)
  state-does t Back = state-back t (pending_at S t) (all.pending t)

-- The first state.

pub at-replicate : {A : Type 0} (P : A → Type 0) (n k : ℕ) (x : A) → P x → P (slice_index_or (replicate n x) k x)
at-replicate P zero k x one = one
at-replicate P (suc n) zero x one = one
at-replicate P (suc n) (suc k) x one = at-replicate P n k x one

unmade-thread : (W : World) (t : ℕ) → MadeThread W t unmade
unmade-thread W t = record { stacked = All-nil _; joins = λ some. absurd (omega arith); forks = λ some. absurd (omega arith); starts = λ some. absurd (omega arith) }

first-thread : (run : Run) (t : ℕ) → MadeThread (first_world run) t (thread_at (first_world run) t)
first-thread run zero = record { stacked = All-nil _; joins = λ some. absurd (omega arith); forks = λ some. absurd (omega arith); starts = λ some. absurd (omega arith) }
first-thread run (suc t) = at-replicate (MadeThread (first_world run) (suc t)) (run.threads - 1) t unmade (unmade-thread (first_world run) (suc t))

first-forked : (run : Run) (k : ℕ) → (task_at (first_world run) k).forked < 2
first-forked run zero = omega arith
first-forked run (suc zero) = omega arith
first-forked run (suc (suc k)) = omega arith

first-placed : (run : Run) (k : ℕ) → IsIdentity k 2 → IsIdentity (region_of (first_world run) k) 2
first-placed run zero one = absurd (omega arith)
first-placed run (suc zero) one = record { some = omega arith; below = omega arith }
first-placed run (suc (suc k)) one = absurd (omega arith)

first-region : (run : Run) (threads r : ℕ) → 1 ≤ threads → IsIdentity r 2 → MadeRegion 2 threads (region_at (first_world run) r)
first-region run threads zero there one = absurd (omega arith)
first-region run threads (suc zero) there one = record { task = omega arith; team = refl; some = omega arith; fits = there }
first-region run threads (suc (suc r)) there one = absurd (omega arith)

pub first-made : (run : Run) → 1 ≤ run.threads → IsMadeState run (first run)
first-made run there =
    let count : length (first_world run).threads ≡ run.threads = omega (arith, length-replicate (run.threads - 1) unmade) in
    record {
      threads = count;
      places = length-replicate run.threads _;
      world = record {
        pooled = refl;
        initial = record { some = omega arith; below = omega arith };
        implicit = record { some = omega arith; below = omega arith };
        threads = first-thread run;
        forked = first-forked run;
        placed = first-placed run;
        regions = λ r one. first-region run _ r (omega (arith, count)) one;
        unencountered = refl;
        encountered = λ r two below. absurd (omega arith);
        ready = All-nil _;
      };
      pending = λ t. at-replicate (MadePending (first_world run) t) run.threads t None tt;
    }

-- after each history
pub made-after : (run : Run) (history : List Entry) → 1 ≤ run.threads → IsMadeState run (after run history)
made-after run history there = of-entries run (IsMadeState run) (λ S entry all. state-does run S all entry.thread entry.what) (first run) history (first-made run there)
