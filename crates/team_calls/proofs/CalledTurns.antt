-- A turn: its silent steps, and then an event.
use Rattle.std.proofs.lemmas.List.{append_assoc}
use Rattle.nested_runs.proofs.Recorded.{inside}
use Rattle.omp_model.specs.Changes.{with_masked_skipped}
use Rattle.omp_model.specs.Members.{current_region}
use Rattle.omp_model.proofs.GonePast.{comes-past}
use Rattle.omp_model.specs.Gates.{arrival}
use Rattle.omp_model.specs.declared.event.Outcome.{Outcome as TurnOutcome}
use Rattle.omp_model.specs.Turn.{Turn, Walk, after_steps, after_walk, state_past_masked, turn, walk, with_going, without_event, counted, halted, unlimited}
use Rattle.work_laws.proofs.Shares.{Tellings}
use Rattle.team_words.specs.Calls.{TeamCall}
use Rattle.omp_model.specs.declared.limits.TheConstants.{STEPS_OF_A_TURN, TURNS, TURN_LIMIT}
use Rattle.omp_model.specs.State.{Run, State, World}
use Rattle.team_calls.proofs.CalledSteps.{OnCalls, past-called, walk-called}
use Rattle.omp_model.specs.declared.event.Halt.TheVariants.{Limit}
use Rattle.guard_laws.proofs.DealtRuns.{IsMet}
use Rattle.omp_model.specs.declared.event.Halt.{Halt}
use Rattle.omp_model.specs.EventEffects.{Going, Halts, Happens, Nothing, effect_of, fault_of, go_of_code, unless}
use Rattle.omp_model.specs.declared.event.Event.{Event}
use Rattle.omp_model.specs.declared.event.Arrival.TheVariants.{CodeEvent, Steps, Waits, RuntimeEvent}
use Rattle.omp_model.proofs.Turning.{Beside, GoOf, OfCode}
use Rattle.omp_model.proofs.Arriving.{Arrives, Reached, arrives}
use Rattle.omp_model.specs.declared.event.Arrival.{Arrival}
use Rattle.team_calls.proofs.Called.{AllCalls, Called}
use Rattle.omp_model.specs.declared.event.Event.TheVariants as event
use Rattle.omp_model.specs.declared.event.Outcome.TheVariants as outcome
use Rattle.std.proofs.Common.{ℕ, ◌≡◌, ◌+◌, ◌==◌, ◌++◌, Bool, true, false, if◌then◌else◌, List, [], refl, sym, ap, ◌∙◌, subst, append-nil}
use Rattle.std.specs.Prelude.{Option, Some, None, nat_le, nat_lt}
use Rattle.team_calls.specs.Called.{calls_at, calls_of_outcome, calls_of_steps, calls_of_turn}

-- an event beside all code makes no call
if-none : (here : Bool) → if◌then◌else◌ {A = List TeamCall} here [] [] ≡ []
if-none true = refl
if-none false = refl

beside-none : (run : Run) (W X : World) (t q : ℕ) (which : Event) → Reached W t which → calls_at run X t q which ≡ []
beside-none run W X t q (event.Work at kind count codeptr) reached = absurd reached
beside-none run W X t q (event.Sync which at codeptr) reached = absurd reached
beside-none run W X t q which reached = if-none (current_region X t == q)

module _ (run : Run) (S : State) (met : IsMet run S) (t : ℕ) (told : Tellings) (outside : inside S t ≡ None) (calls : AllCalls)
    (start : OnCalls run S met t told outside S.world calls) where
  abbrev So : World → AllCalls → Type 0
  So W calls = OnCalls run S met t told outside W calls

  -- an event has occurred in a world, with the calls up to it
  pub record Went (e : Event) (next : World) (now : AllCalls) : Type 0 where
    pub before : World
    pub base : AllCalls
    pub so : So before base
    pub go : GoOf run before t e next
    pub same : (q : ℕ) → now q ≡ base q ++ calls_at run before t q e

  abbrev pub Came : World → AllCalls → TurnOutcome → Type 0
  Came next now (outcome.Happens e) = Went e next now
  Came next now other = Called next (inside S) now

  abbrev w : Walk
  w = walk run STEPS_OF_A_TURN 0 S t

  abbrev steps : AllCalls
  steps = λ q. calls_of_steps run STEPS_OF_A_TURN S t q

  abbrev X : World
  X = with_masked_skipped (walk run STEPS_OF_A_TURN 0 S t).state.world t

  -- all calls of the turn, by its outcome
  abbrev all : TurnOutcome → AllCalls
  all came = λ q. calls q ++ (steps q ++ calls_of_outcome run X t q came)

  walked-so : So w.state.world (λ q. calls q ++ steps q)
  walked-so = walk-called run S met t told outside STEPS_OF_A_TURN 0 S calls start

  no-event : (W : World) → So W (λ q. calls q ++ steps q) → Called W (inside S) (λ q. calls q ++ (steps q ++ []))
  no-event W so = subst (Called W (inside S)) (λ i q. sym (ap (λ (more : List TeamCall). calls q ++ more) (append-nil (steps q))) i) so.called

  none-came : (state : State) (made : ℕ) → So state.world (λ q. calls q ++ steps q) →
      Came (without_event state made).state.world (all (without_event state made).outcome) (without_event state made).outcome
  none-came state made so =
      elim (nat_lt 0 made) as (λ b. let T : Turn = if b then record { outcome = outcome.Quiet; state = counted state } else record { outcome = outcome.Idle; state = state } in Came T.state.world (all T.outcome) T.outcome) [ true ↦ no-event state.world so | false ↦ no-event state.world so ]

  joined : (e : Event) (before : World) → ((q : ℕ) → calls_at run X t q e ≡ calls_at run before t q e) → (q : ℕ) →
      all (outcome.Happens e) q ≡ (calls q ++ steps q) ++ calls_at run before t q e
  joined e before same q =
      sym (append_assoc (calls q) (steps q) (calls_at run X t q e)) ∙ ap (λ (more : List TeamCall). (calls q ++ steps q) ++ more) (same q)

  code-came : (state : State) (made : ℕ) (going : Going) → So state.world (λ q. calls q ++ steps q) → state.world ≡ X →
      ((e : Event) (after : World) → going ≡ Happens e after → GoOf run state.world t e after) →
      Came (with_going state made t going).state.world (all (with_going state made t going).outcome) (with_going state made t going).outcome
  code-came state made Nothing so is go = none-came state made so
  code-came state made (Happens e after) so is go =
      record {
        before = state.world;
        base = λ q. calls q ++ steps q;
        so = so;
        go = go e after refl;
        same = joined e state.world (λ q. ap (λ (W : World). calls_at run W t q e) (sym is));
      }
  code-came state made (Halts halt) so is go = no-event state.world so

  beside-came : (state : State) (made : ℕ) (which : Event) (halt : Option Halt) → fault_of state.world t which ≡ halt → arrival state.world t ≡ RuntimeEvent which →
      So state.world (λ q. calls q ++ steps q) →
      let now = with_going state made t (unless halt which (effect_of state.world t which)) in Came now.state.world (all now.outcome) now.outcome
  beside-came state made which (Some halt) fault is so = no-event state.world so
  beside-came state made which None fault is so =
      let reached : Reached state.world t which = subst (Arrives state.world t) is (arrives state.world t) in
      record {
        before = state.world;
        base = λ q. calls q ++ steps q;
        so = so;
        go = Beside is (ap (λ (h : Option Halt). unless h which (effect_of state.world t which)) fault);
        same = joined which state.world (λ q. beside-none run state.world X t q which reached ∙ sym (beside-none run state.world state.world t q which reached));
      }

  steps-came : (came : Arrival) → arrival w.state.world t ≡ came →
      Came (after_steps run w.state w.made t came).state.world (all (after_steps run w.state w.made t came).outcome) (after_steps run w.state w.made t came).outcome
  steps-came Waits is = none-came w.state w.made walked-so
  steps-came Steps is = none-came w.state w.made walked-so
  steps-came CodeEvent is =
      code-came (state_past_masked w.state t) w.made (go_of_code run (with_masked_skipped w.state.world t) t)
      (past-called run S met t told outside w.state.world (λ q. calls q ++ steps q) walked-so) refl
      (λ e after happens. OfCode (comes-past w.state.world t is) happens)
  steps-came (RuntimeEvent which) is = beside-came w.state w.made which (fault_of w.state.world t which) refl is walked-so

  stop-came : (stop : Option Halt) → Came (after_walk run w t stop).state.world (all (after_walk run w t stop).outcome) (after_walk run w t stop).outcome
  stop-came (Some halt) = no-event w.state.world walked-so
  stop-came None = steps-came (arrival w.state.world t) refl

  unlimited-came : Came (unlimited run S t).state.world (all (unlimited run S t).outcome) (unlimited run S t).outcome
  unfolding unlimited
  unlimited-came = stop-came w.stop

  pub turn-came : Came (turn run S t).state.world (λ q. calls q ++ calls_of_turn run S t q) (turn run S t).outcome
  unfolding turn
  turn-came =
      elim (nat_le TURN_LIMIT (S.turns + 1)) as (λ b. let T : Turn = if b then halted S (Limit TURNS) else unlimited run S t in Came T.state.world (λ q. calls q ++ (if b then [] else steps q ++ calls_of_outcome run X t q T.outcome)) T.outcome) [
        | true ↦ subst (Called S.world (inside S)) (λ i q. sym (append-nil (calls q)) i) start.called
        | false ↦ unlimited-came
      ]
