-- What is true of a machine's states is true of the first one and stays true, and a thread whose event is told or untold waits.
use Rattle.std.proofs.Common.{◌≡◌, ℕ, zero, suc, ◌<◌, ◌≤◌, List, [], ◌∷◌, Option, Some, None, true, IsTrue, IsSome, length, slice_index_or, get_or-set_same, refl, sym, subst, ◌∙◌, arith}
use Rattle.std.proofs.lemmas.Bool.{true≢false}
use Rattle.ompt_calls.specs.declared.snapshot.Target.{Target}
use Rattle.omp_model.specs.declared.event.Callback.{Callback}
use Rattle.omp_model.specs.declared.event.Event.{Event}
use Rattle.omp_model.specs.declared.event.Halt.{Halt}
use Rattle.omp_model.specs.declared.event.Halt.TheVariants.{Trap, Limit}
use Rattle.omp_model.specs.declared.event.Outcome.{Outcome}
use Rattle.omp_model.specs.declared.event.Outcome.TheVariants.{Idle, Quiet, Happens, Halts}
use Rattle.omp_model.specs.State.{Run, State, Thread, first, pending_at, unmade}
use Rattle.omp_model.specs.Legal.{back, put, put_from}
use Rattle.omp_model.specs.MadeWorld.{IsMadeState}
use Rattle.omp_model.specs.Turn.{enabled, turn}
use Rattle.omp_model.specs.Words.{is_made_thread}
use Rattle.omp_model.proofs.MadeEvents.{MadeGo}
use Rattle.omp_model.proofs.MadeRuns.{MadeTurn, first-made, state-back, state-put, state-turn, turn-made}
use Rattle.omp_model.proofs.Turns.{back-halt, back-turns, turn-below, turn-goes, turn-pending, turns-rise}
use Rattle.omp_machine.specs.MachineView.{IsSound, is_call, went_after, went_of_halt}

pub sound-first : (run : Run) → 1 ≤ run.threads → IsSound run (first run)
sound-first run some = record { some = some; turns_left = λ on. omega arith; turns = omega arith; made = first-made run some }

pub sound-turn : (run : Run) (S : State) (t : ℕ) → enabled S t ≡ true → IsSound run S → IsSound run (turn run S t).state
sound-turn run S t on sound =
    record {
      some = sound.some;
      turns_left = turn-below run S t on;
      turns = omega (arith, turns-rise run S t on, sound.turns_left (turn-goes S t on).halt);
      made = state-turn run S sound.made t;
    }

pub sound-back : (run : Run) (S : State) (t : ℕ) → IsSound run S → IsSound run (back S t)
sound-back run S t sound =
    record {
      some = sound.some;
      turns_left = λ on. let left = sound.turns_left (sym (back-halt S t) ∙ on) in omega (arith, left, back-turns S t);
      turns = omega (arith, sound.turns, back-turns S t);
      made = state-back run S sound.made t (pending_at S t) (sound.made.pending t);
    }

-- what a store leaves of a state's counts
record PutKeeps (S after : State) : Type 0 where
  pub turns : after.turns ≡ S.turns
  pub halt : after.halt ≡ S.halt

put-keeps : (S : State) (t : ℕ) (place : Target) (word : ℕ) (callback : Option Callback) → PutKeeps S (put_from S t place word callback)
put-keeps S t place word None = record { turns = refl; halt = refl }
put-keeps S t place word (Some callback) = record { turns = refl; halt = refl }

pub sound-put : (run : Run) (S : State) (t : ℕ) (place : Target) (word : ℕ) → IsSound run S → IsSound run (put S t place word)
sound-put run S t place word sound =
    let keeps = put-keeps S t place word (pending_at S t) in
    record {
      some = sound.some;
      turns_left = λ on. let left = sound.turns_left (sym keeps.halt ∙ on) in omega (arith, left, keeps.turns);
      turns = omega (arith, sound.turns, keeps.turns);
      made = state-put run S sound.made t place word (pending_at S t) (sound.made.pending t);
    }

-- a thread that was made is one of the list
among : (threads : List Thread) (t : ℕ) → is_made_thread (slice_index_or threads t unmade).stage ≡ true → t < length threads
among [] t there = absurd (true≢false (sym there))
among (thread ∷ threads) zero there = omega arith
among (thread ∷ threads) (suc t) there = let within = among threads t there in omega arith

-- the thread of an event waits
pub pending-happens : (run : Run) (S : State) (t : ℕ) (e : Event) → IsMadeState run S → (turn run S t).outcome ≡ Happens e → IsSome (pending_at (turn run S t).state t)
pending-happens run S t e all happens =
    let next : State = (turn run S t).state in
    let go : MadeGo S.world next.world t e = subst (MadeTurn S.world t next.world) happens (turn-made run S t all.world) in
    let below : t < length S.pending = omega (arith, among next.world.threads t go.occurred.thread, go.whole.later.threads, all.threads, all.places) in
    rw (turn-pending run S t e happens, get_or-set_same) refl

halt-no_call : (halt : Halt) → IsTrue (is_call (went_of_halt halt)) → ⊥
halt-no_call (Trap number) call = true≢false (sym call)
halt-no_call (Limit number) call = true≢false (sym call)

waits-by : (run : Run) (S : State) (t : ℕ) (o : Outcome) → IsMadeState run S → (turn run S t).outcome ≡ o → IsTrue (is_call (went_after run (turn run S t).state t o)) → IsSome (pending_at (turn run S t).state t)
waits-by run S t Idle all came call = absurd (true≢false (sym call))
waits-by run S t Quiet all came call = absurd (true≢false (sym call))
waits-by run S t (Happens e) all came call = pending-happens run S t e all came
waits-by run S t (Halts halt) all came call = absurd (halt-no_call halt call)

pub waits-turn : (run : Run) (S : State) (t : ℕ) → IsMadeState run S → IsTrue (is_call (went_after run (turn run S t).state t (turn run S t).outcome)) → IsSome (pending_at (turn run S t).state t)
waits-turn run S t all call = waits-by run S t (turn run S t).outcome all refl call
