-- The words of no region and no task have no value, after each history and after each turn.
use Rattle.std.proofs.Common.{ℕ, ◌≡◌, ◌≤◌, true, List, [], ◌∷◌, refl, ap, subst}
use Rattle.std.specs.Prelude.{Option, Some, None, IsTrue}
use Rattle.std.proofs.lemmas.Bool.{and_parts}
use Rattle.ompt_calls.specs.declared.snapshot.Target.{Target}
use Rattle.omp_model.specs.declared.event.Callback.{Callback}
use Rattle.omp_model.specs.declared.event.Event.{Event}
use Rattle.omp_model.specs.declared.event.Outcome.{Outcome as TurnOutcome}
use Rattle.omp_model.specs.declared.event.Outcome.TheVariants as outcome
use Rattle.omp_model.specs.declared.event.Outcome.TheVariants.{Happens}
use Rattle.omp_model.specs.declared.history.What.{What}
use Rattle.omp_model.specs.declared.history.What.TheVariants.{Go, Put, Back}
use Rattle.omp_model.specs.declared.history.Entry.{Entry}
use Rattle.omp_model.specs.State.{Run, State, World, first, pending_at}
use Rattle.omp_model.proofs.Alike.{QuietWorld}
use Rattle.omp_model.specs.EventEffects.{effect_of, fault_of}
use Rattle.omp_model.specs.Words.{null_word, is_made}
use Rattle.omp_model.specs.Turn.{turn}
use Rattle.omp_model.specs.Legal.{AllowsFrom, Legal, after, after_from, back_from, does, entered, may, may_put, put_from}
use Rattle.omp_model.proofs.AlikeWorlds.{quiet-turn}
use Rattle.omp_model.proofs.Turning.{Beside, GoOf, OfCode, Turned}
use Rattle.run_trace.proofs.Sensible.{HasNulls}
use Rattle.run_trace.proofs.Bare.{BareGoing, IsBare, bare-at_back, bare-beside, bare-in_code, bare-quiet, bare-stored, bare-unless}

-- A turn.

bare-go : (run : Run) (W after : World) (t : ℕ) (e : Event) → IsBare W → GoOf run W t e after → IsBare after
bare-go run W after t e bare (OfCode comes happens) = subst BareGoing happens (bare-in_code run W t bare)
bare-go run W after t e bare (Beside meets happens) =
    subst BareGoing happens (bare-unless (fault_of W t e) e (effect_of W t e) (bare-beside W t e bare))

turned-bare : (run : Run) (W after : World) (t : ℕ) (came : TurnOutcome) → IsBare W → Turned run (QuietWorld t W) t after came → IsBare after
turned-bare run W after t (outcome.Happens e) bare from = bare-go run from.before after t e (bare-quiet t W from.before from.holds bare) from.go
turned-bare run W after t outcome.Idle bare quiet = bare-quiet t W after quiet bare
turned-bare run W after t outcome.Quiet bare quiet = bare-quiet t W after quiet bare
turned-bare run W after t (outcome.Halts halt) bare quiet = bare-quiet t W after quiet bare

bare-turn : (run : Run) (S : State) (t : ℕ) → IsBare S.world → IsBare (turn run S t).state.world
bare-turn run S t bare = turned-bare run S.world (turn run S t).state.world t (turn run S t).outcome bare (quiet-turn run t S)

-- The return of a callback, and a store.

bare-back : (S : State) (t : ℕ) (callback : Option Callback) → IsBare S.world → IsBare (back_from S t callback).world
bare-back S t None bare = bare
bare-back S t (Some callback) bare = bare-at_back S.world t callback.event bare

bare-put : (run : Run) (S : State) (t : ℕ) (place : Target) (word : ℕ) (callback : Option Callback) → may_put run S place callback ≡ true → IsBare S.world → IsBare (put_from S t place word callback).world
bare-put run S t place word None allowed bare = bare
bare-put run S t place word (Some callback) allowed bare = bare-stored S.world place word (and_parts _ (is_made S.world place) allowed).1 bare

-- Histories: each store in one is allowed, and so is of what was made.

bare-nulls : (W : World) → IsBare W → HasNulls W
bare-nulls W bare =
    record {
      region = ap (λ (value : ℕ). record null_word { value = value }) bare.region;
      task = ap (λ (value : ℕ). record null_word { value = value }) bare.task;
    }

bare-does : (run : Run) (S : State) (t : ℕ) (what : What) → IsTrue (may run S t what) → IsBare S.world → IsBare (does run S t what).world
bare-does run S t Go allowed bare = bare-turn run S t bare
bare-does run S t (Put place word) allowed bare = bare-put run S t place word (pending_at S t) allowed bare
bare-does run S t Back allowed bare = bare-back S t (pending_at S t) bare

bare-from : (run : Run) (S : State) (history : List Entry) → AllowsFrom run S history → IsBare S.world → IsBare (after_from run S history).world
bare-from run S [] legal bare = bare
bare-from run S (entry ∷ rest) legal bare = bare-from run (entered run S entry) rest legal.1 (bare-does run S entry.thread entry.what legal.0 bare)

bare-after : (run : Run) (history : List Entry) → Legal run history → IsBare (after run history).world
bare-after run history legal = bare-from run (first run) history legal (record { task = refl; region = refl })

pub nulls-after : (run : Run) (history : List Entry) → 1 ≤ run.threads → Legal run history → HasNulls (after run history).world
nulls-after run history some legal = bare-nulls (after run history).world (bare-after run history legal)

pub nulls-turn : (run : Run) (history : List Entry) (t : ℕ) (event : Event) → 1 ≤ run.threads → Legal run history → (turn run (after run history) t).outcome ≡ Happens event → HasNulls (turn run (after run history) t).state.world
nulls-turn run history t event some legal happens =
    let S = after run history in bare-nulls (turn run S t).state.world (bare-turn run S t (bare-after run history legal))
