-- A turn that comes to no event leaves no share of work that wasn't told: a share that a silent step takes is told in the same turn.
use Rattle.std.proofs.Common.{ℕ, zero, suc, ◌≡◌, ◌+◌, nat_le, nat_lt, Bool, true, false, if◌then◌else◌, Option, Some, None, refl, sym, ap, ◌∙◌}
use Rattle.omp_model.specs.declared.limits.TheConstants.{STEPS, STEPS_OF_A_TURN, TURNS, TURN_LIMIT}
use Rattle.omp_model.specs.declared.event.Arrival.{Arrival}
use Rattle.omp_model.specs.declared.event.Arrival.TheVariants.{CodeEvent, RuntimeEvent, Steps, Waits}
use Rattle.omp_model.specs.declared.event.Event.{Event}
use Rattle.omp_model.specs.declared.event.Event.TheVariants.{Dispatch}
use Rattle.omp_model.specs.declared.event.Halt.{Halt}
use Rattle.omp_model.specs.declared.event.Halt.TheVariants.{Limit}
use Rattle.omp_model.specs.declared.event.Outcome.{Outcome}
use Rattle.omp_model.specs.declared.event.Outcome.TheVariants as outcome
use Rattle.omp_model.specs.declared.event.Share.{Share}
use Rattle.omp_model.specs.State.{Run, State, World}
use Rattle.omp_model.specs.Gates.{arrival}
use Rattle.omp_model.specs.Changes.{with_masked_skipped}
use Rattle.omp_model.specs.Silent.{Goes, Silence, Stops, silent_step}
use Rattle.omp_model.specs.EventEffects.{Going, Halts, Happens, Nothing, effect_of, fault_of, go_of_code, unless}
use Rattle.omp_model.specs.Turn.{Turn, Walk, after_steps, after_walk, counted, state_past_masked, halted, stepped, turn, unlimited, walk, walk_by, walk_on, walked, with_going, without_event}
use Rattle.omp_model.proofs.GonePast.{comes-past}
use Rattle.omp_model.proofs.Turning.{AfterSilence, Beside, GoFrom, GoOf, OfCode}

-- what is so after a turn: an event has occurred, or all is told
abbrev pub Ended : Run → (World → Type 0) → (World → Type 0) → ℕ → World → Outcome → Type 0
Ended run P N t after (outcome.Happens e) = GoFrom run P t e after
Ended run P N t after other = N after

module _ (run : Run) (t : ℕ) (P N : World → Type 0) (past : (W : World) → P W → P (with_masked_skipped W t)) (told-past : (W : World) → N W → N (with_masked_skipped W t))
    (silent : (W : World) → arrival W t ≡ Steps → P W → AfterSilence P (silent_step run W t))
    (quiet : (W : World) → P W → ((share : Share) → arrival W t ≡ RuntimeEvent (Dispatch share) → ⊥) → N W) where
  record Walked (w : Walk) : Type 0 where
    holds : P w.state.world
    stopped : (halt : Halt) → w.stop ≡ Some halt → N w.state.world

  apart : (one other : Arrival) (W : World) → arrival W t ≡ one → ((share : Share) → one ≡ RuntimeEvent (Dispatch share) → ⊥) → (share : Share) →
      arrival W t ≡ RuntimeEvent (Dispatch share) → ⊥
  apart one other W is differs share met = differs share (sym is ∙ met)

  steps-apart : (share : Share) → Steps ≡ RuntimeEvent (Dispatch share) → ⊥
  steps-apart share is = cc

  waits-apart : (share : Share) → Waits ≡ RuntimeEvent (Dispatch share) → ⊥
  waits-apart share is = cc

  comes-apart : (share : Share) → CodeEvent ≡ RuntimeEvent (Dispatch share) → ⊥
  comes-apart share is = cc

  -- ---- silent steps

  going-on : (S : State) (made : ℕ) → P S.world → Walked (walked S made None)
  going-on S made holds = record { holds = holds; stopped = λ halt is. cc }

  by-walk : (S : State) (made : ℕ) (silence : Silence) (more : World → Walk) → P S.world → N S.world → AfterSilence P silence →
      ((W : World) → P W → Walked (more W)) → Walked (walk_by S made silence more)
  by-walk S made (Goes after) more holds told next goes = goes after next
  by-walk S made (Stops halt) more holds told next goes = record { holds = holds; stopped = λ other is. told }

  on-step : (S : State) (made : ℕ) (over : Bool) (more : World → Walk) → P S.world → N S.world → AfterSilence P (silent_step run S.world t) →
      ((W : World) → P W → Walked (more W)) →
      Walked (if over then walked S made (Some (Limit STEPS)) else walk_by (state_past_masked S t) made (silent_step run S.world t) more)
  on-step S made true more holds told next goes = record { holds = holds; stopped = λ other is. told }
  on-step S made false more holds told next goes =
      by-walk (state_past_masked S t) made (silent_step run S.world t) more (past S.world holds) (told-past S.world told) next goes

  on-walk : (S : State) (made : ℕ) (next : Arrival) (more : World → Walk) → arrival S.world t ≡ next → P S.world → ((W : World) → P W →
      Walked (more W)) →
      Walked (walk_on run S t made next more)
  on-walk S made Steps more is holds goes =
      on-step S made (nat_le run.steps S.steps) more holds (quiet S.world holds (apart Steps Steps S.world is steps-apart))
      (silent S.world is holds) goes
  on-walk S made other more is holds goes = going-on S made holds

  after-walks : (left made : ℕ) (S : State) → P S.world → Walked (walk run left made S t)
  unfolding walk
  after-walks zero made S holds = going-on S made holds
  after-walks (suc left) made S holds =
      on-walk S made (arrival S.world t) (λ after. walk run left (made + 1) (stepped S after) t) refl holds
      (λ W now. after-walks left (made + 1) (stepped S W) now)

  -- ---- the event

  of-none : (S : State) (made : ℕ) → N S.world → Ended run P N t (without_event S made).state.world (without_event S made).outcome
  of-none S made told =
      elim (nat_lt 0 made) as (λ b. let T : Turn = if b then record { outcome = outcome.Quiet; state = counted S } else record { outcome = outcome.Idle; state = S } in Ended run P N t T.state.world T.outcome) [ true ↦ told | false ↦ told ]

  of-going : (S : State) (made : ℕ) (going : Going) → P S.world → N S.world →
      ((e : Event) (after : World) → going ≡ Happens e after → GoOf run S.world t e after) →
      Ended run P N t (with_going S made t going).state.world (with_going S made t going).outcome
  of-going S made Nothing holds told go = of-none S made told
  of-going S made (Happens e after) holds told go = record { before = S.world; holds = holds; go = go e after refl }
  of-going S made (Halts halt) holds told go = told

  of-beside : (S : State) (made : ℕ) (which : Event) (halt : Option Halt) → fault_of S.world t which ≡ halt → arrival S.world t ≡ RuntimeEvent which →
      P S.world →
      ((other : Halt) → halt ≡ Some other → N S.world) →
      let now = with_going S made t (unless halt which (effect_of S.world t which)) in Ended run P N t now.state.world now.outcome
  of-beside S made which (Some halt) fault is holds told = told halt refl
  of-beside S made which None fault is holds told =
      record {
        before = S.world;
        holds = holds;
        go = Beside is (ap (λ (h : Option Halt). unless h which (effect_of S.world t which)) fault);
      }

  -- a dispatch meets no limit
  unlimited-dispatch : (S : State) (which : Event) → P S.world → arrival S.world t ≡ RuntimeEvent which → (other : Halt) →
      fault_of S.world t which ≡ Some other →
      N S.world
  unfolding fault_of
  unlimited-dispatch S (Dispatch share) holds is other fault = cc
  unlimited-dispatch S which holds is other fault = quiet S.world holds (λ share met. different share (sym is ∙ met))
    where
      different : (share : Share) → RuntimeEvent which ≡ RuntimeEvent (Dispatch share) → ⊥
      different share same = cc

  of-steps : (S : State) (made : ℕ) (next : Arrival) → arrival S.world t ≡ next → P S.world →
      Ended run P N t (after_steps run S made t next).state.world (after_steps run S made t next).outcome
  of-steps S made Waits is holds = of-none S made (quiet S.world holds (apart Waits Waits S.world is waits-apart))
  of-steps S made Steps is holds = of-none S made (quiet S.world holds (apart Steps Steps S.world is steps-apart))
  of-steps S made CodeEvent is holds =
      of-going (state_past_masked S t) made (go_of_code run (with_masked_skipped S.world t) t) (past S.world holds)
      (told-past S.world (quiet S.world holds (apart CodeEvent CodeEvent S.world is comes-apart)))
      (λ e after happens. OfCode (comes-past S.world t is) happens)
  of-steps S made (RuntimeEvent which) is holds =
      of-beside S made which (fault_of S.world t which) refl is holds (unlimited-dispatch S which holds is)

  of-stop : (w : Walk) (stop : Option Halt) → w.stop ≡ stop → Walked w →
      Ended run P N t (after_walk run w t stop).state.world (after_walk run w t stop).outcome
  of-stop w (Some halt) is so = so.stopped halt is
  of-stop w None is so = of-steps w.state w.made (arrival w.state.world t) refl so.holds

  of-unlimited : (S : State) → P S.world → Ended run P N t (unlimited run S t).state.world (unlimited run S t).outcome
  unfolding unlimited
  of-unlimited S holds = let w = walk run STEPS_OF_A_TURN 0 S t in of-stop w w.stop refl (after-walks STEPS_OF_A_TURN 0 S holds)

  pub ended-turn : (S : State) → P S.world → N S.world → Ended run P N t (turn run S t).state.world (turn run S t).outcome
  unfolding turn
  ended-turn S holds told =
      elim (nat_le TURN_LIMIT (S.turns + 1)) as (λ b. let T : Turn = if b then halted S
      (Limit TURNS) else unlimited run S t in Ended run P N t T.state.world T.outcome) [ true ↦ told | false ↦ of-unlimited S holds ]
