-- What silent steps and going past keep of the world a turn keeps up to its event, whatever that is.
use Rattle.std.proofs.Common.{◌≡◌, ℕ, zero, suc, ◌+◌, Bool, true, false, nat_le, nat_lt, if◌then◌else◌, List, [], ◌∷◌, Option, Some, None, refl, ap, ◌∙◌, subst}
use Rattle.omp_model.specs.declared.limits.TheConstants.{STEPS, STEPS_OF_A_TURN, TURNS, TURN_LIMIT}
use Rattle.omp_model.specs.declared.event.Arrival.{Arrival}
use Rattle.omp_model.specs.declared.event.Arrival.TheVariants.{CodeEvent, RuntimeEvent, Steps, Waits}
use Rattle.omp_model.specs.declared.event.Event.{Event}
use Rattle.omp_model.specs.declared.event.Halt.{Halt}
use Rattle.omp_model.specs.declared.event.Halt.TheVariants.{Limit}
use Rattle.omp_model.specs.declared.event.Outcome.{Outcome}
use Rattle.omp_model.specs.declared.event.Outcome.TheVariants as outcome
use Rattle.omp_model.specs.declared.history.Entry.{Entry}
use Rattle.omp_model.specs.State.{Run, State, World}
use Rattle.omp_model.specs.Gates.{arrival}
use Rattle.omp_model.specs.Changes.{with_masked_skipped}
use Rattle.omp_model.specs.Silent.{Silence, Goes, Stops, silent_step}
use Rattle.omp_model.specs.EventEffects.{Going, Nothing, Happens, Halts, effect_of, fault_of, go_of_runtime, go_of_code, unless}
use Rattle.omp_model.specs.Legal.{after_from, entered}
use Rattle.omp_model.specs.Turn.{Turn, Walk, after_steps, after_walk, counted, state_past_masked, halted, stepped, turn, unlimited, walk, walk_by, walk_on, walked, with_going, without_event}
use Rattle.omp_model.proofs.GonePast.{comes-past}

-- the Go of an event to which the thread has come in this world
pub data GoOf (run : Run) (W : World) (t : ℕ) (e : Event) (after : World) : Type 0 where
  OfCode : arrival W t ≡ CodeEvent → go_of_code run W t ≡ Happens e after → GoOf run W t e after
  Beside : arrival W t ≡ RuntimeEvent e → go_of_runtime W t e ≡ Happens e after → GoOf run W t e after

-- .. in a world of which this is so
pub record GoFrom (run : Run) (P : World → Type 0) (t : ℕ) (e : Event) (after : World) : Type 0 where
  pub before : World
  pub holds : P before
  pub go : GoOf run before t e after

-- what is so after a turn with this outcome
abbrev pub Turned : Run → (World → Type 0) → ℕ → World → Outcome → Type 0
Turned run P t after (outcome.Happens e) = GoFrom run P t e after
Turned run P t after other = P after

-- what is so after a silent step, if it was made
abbrev pub AfterSilence : (World → Type 0) → Silence → Type 0
AfterSilence P (Goes after) = P after
AfterSilence P (Stops halt) = Unit {0}

module _ (run : Run) (t : ℕ) (P : World → Type 0) (past : (W : World) → P W → P (with_masked_skipped W t)) (silent : (W : World) → arrival W t ≡ Steps → P W → AfterSilence P (silent_step run W t)) where
  by-walk : (S : State) (made : ℕ) (silence : Silence) (more : World → Walk) → P S.world → AfterSilence P silence → ((W : World) → P W → P (more W).state.world) → P (walk_by S made silence more).state.world
  by-walk S made (Goes after) more holds next goes = goes after next
  by-walk S made (Stops halt) more holds next goes = holds

  on-step : (S : State) (made : ℕ) (over : Bool) (more : World → Walk) → P S.world → AfterSilence P (silent_step run S.world t) → ((W : World) → P W → P (more W).state.world) →
      P (if over then walked S made (Some (Limit STEPS)) else walk_by (state_past_masked S t) made (silent_step run S.world t) more).state.world
  on-step S made true more holds next goes = holds
  on-step S made false more holds next goes = by-walk (state_past_masked S t) made (silent_step run S.world t) more (past S.world holds) next goes

  on-walk : (S : State) (made : ℕ) (next : Arrival) (more : World → Walk) → arrival S.world t ≡ next → P S.world → ((W : World) → P W → P (more W).state.world) → P (walk_on run S t made next more).state.world
  on-walk S made Steps more is holds goes = on-step S made (nat_le run.steps S.steps) more holds (silent S.world is holds) goes
  on-walk S made other more is holds goes = holds

  -- after the silent steps of a turn
  pub of-walk : (left made : ℕ) (S : State) → P S.world → P (walk run left made S t).state.world
  unfolding walk
  of-walk zero made S holds = holds
  of-walk (suc left) made S holds =
      on-walk S made (arrival S.world t) (λ after. walk run left (made + 1) (stepped S after) t) refl holds (λ W now. of-walk left (made + 1) (stepped S W) now)

  of-none : (S : State) (made : ℕ) → P S.world → Turned run P t (without_event S made).state.world (without_event S made).outcome
  of-none S made holds =
      elim (nat_lt 0 made) as (λ b. let T : Turn = if b then record { outcome = outcome.Quiet; state = counted S } else record { outcome = outcome.Idle; state = S } in Turned run P t T.state.world T.outcome) [ true ↦ holds | false ↦ holds ]

  of-going : (S : State) (made : ℕ) (going : Going) → P S.world → ((e : Event) (after : World) → going ≡ Happens e after → GoOf run S.world t e after) → Turned run P t (with_going S made t going).state.world (with_going S made t going).outcome
  of-going S made Nothing holds go = of-none S made holds
  of-going S made (Happens e after) holds go = record { before = S.world; holds = holds; go = go e after refl }
  of-going S made (Halts halt) holds go = holds

  -- the event that stands beside all code is the one to which the thread has come
  go-beside : (W : World) (which : Event) (halt : Option Halt) → fault_of W t which ≡ halt → arrival W t ≡ RuntimeEvent which → (e : Event) (after : World) → unless halt which (effect_of W t which) ≡ Happens e after → GoOf run W t e after
  go-beside W which (Some halt) fault is e after happens = cc
  go-beside W which None fault is e after happens =
      let same : which ≡ e = cc in
      let effect : effect_of W t which ≡ after = cc in
      let went : go_of_runtime W t which ≡ Happens which after = ap (λ h. unless h which (effect_of W t which)) fault ∙ ap (Happens which) effect in
      subst (λ x. GoOf run W t x after) same (Beside is went)

  of-steps : (S : State) (made : ℕ) (next : Arrival) → arrival S.world t ≡ next → P S.world → Turned run P t (after_steps run S made t next).state.world (after_steps run S made t next).outcome
  of-steps S made Waits is holds = of-none S made holds
  of-steps S made Steps is holds = of-none S made holds
  of-steps S made CodeEvent is holds =
      of-going (state_past_masked S t) made (go_of_code run (with_masked_skipped S.world t) t) (past S.world holds) (λ e after happens. OfCode (comes-past S.world t is) happens)
  of-steps S made (RuntimeEvent which) is holds = of-going S made (go_of_runtime S.world t which) holds (go-beside S.world which (fault_of S.world t which) refl is)

  of-stop : (w : Walk) (stop : Option Halt) → P w.state.world → Turned run P t (after_walk run w t stop).state.world (after_walk run w t stop).outcome
  of-stop w (Some halt) holds = holds
  of-stop w None holds = of-steps w.state w.made (arrival w.state.world t) refl holds

  of-unlimited : (S : State) → P S.world → Turned run P t (unlimited run S t).state.world (unlimited run S t).outcome
  unfolding unlimited
  of-unlimited S holds = let w = walk run STEPS_OF_A_TURN 0 S t in of-stop w w.stop (of-walk STEPS_OF_A_TURN 0 S holds)

  -- a turn
  pub of-turn : (S : State) → P S.world → Turned run P t (turn run S t).state.world (turn run S t).outcome
  unfolding turn
  of-turn S holds =
      elim (nat_le TURN_LIMIT (S.turns + 1)) as (λ b. let T : Turn = if b then halted S (Limit TURNS) else unlimited run S t in Turned run P t T.state.world T.outcome) [ true ↦ holds | false ↦ of-unlimited S holds ]

-- what entries keep holds after them
pub of-entries : (run : Run) (P : State → Type 0) → ((S : State) (entry : Entry) → P S → P (entered run S entry)) → (S : State) (history : List Entry) → P S → P (after_from run S history)
of-entries run P keeps S [] holds = holds
of-entries run P keeps S (entry ∷ rest) holds = of-entries run P keeps (entered run S entry) rest (keeps S entry holds)
