-- When there is a turn, and what it leaves of the counts by its outcome.
use Rattle.std.specs.Prelude.{◌≡◌, ℕ, zero, suc, ◌+◌, ◌<◌, ◌&&◌, Bool, true, false, nat_le, nat_lt, if◌then◌else◌, Option, Some, None, is_none, slice_set, refl}
use Rattle.std.proofs.lemmas.Bool.{true≢false, and_parts, leb-false}
use Rattle.std.proofs.Common.{sym, ap, ◌∙◌, subst, add-one, lt-ltb, arith}
use Rattle.omp_model.specs.declared.limits.TheConstants.{STEPS, STEPS_OF_A_TURN, TURNS, TURN_LIMIT}
use Rattle.omp_model.specs.declared.event.Arrival.{Arrival}
use Rattle.omp_model.specs.declared.event.Arrival.TheVariants.{CodeEvent, RuntimeEvent, Steps, Waits}
use Rattle.omp_model.specs.declared.event.Callback.{Callback}
use Rattle.omp_model.specs.declared.event.Event.{Event}
use Rattle.omp_model.specs.declared.event.Outcome.{Outcome}
use Rattle.omp_model.specs.declared.event.Outcome.TheVariants as outcome
use Rattle.omp_model.specs.Legal.{back_from, back}
use Rattle.omp_model.specs.declared.event.Halt.{Halt}
use Rattle.omp_model.specs.declared.event.Halt.TheVariants.{Limit}
use Rattle.omp_model.specs.State.{Run, World, State, pending_at}
use Rattle.omp_model.specs.Gates.{arrival}
use Rattle.omp_model.specs.Changes.{with_masked_skipped}
use Rattle.omp_model.specs.Silent.{Silence, Goes, Stops, silent_step}
use Rattle.omp_model.specs.EventEffects.{Going, Nothing, Happens, Halts, fault_of, effect_of, go_of_runtime, go_of_code, unless}
use Rattle.omp_model.specs.Turn.{Walk, Turn, after_steps, after_walk, called, counted, enabled, goes_on, state_past_masked, halted, has_outcome, stepped, turn, unlimited, walk, walk_by, walk_on, walked, with_going, without_event}
use Rattle.omp_model.proofs.Coming.{IsGo, comes_goes}
use Rattle.omp_model.proofs.GonePast.{comes-past}

-- a Go is an outcome, and so is the trap or limit that it meets
has-going : (S : State) (made t : ℕ) (going : Going) → IsGo going → has_outcome (with_going S made t going).outcome ≡ true
has-going S made t Nothing is = absurd is
has-going S made t (Happens event after) is = refl
has-going S made t (Halts halt) is = refl

unless-is : (halt : Option Halt) (which : Event) (after : World) → IsGo (unless halt which after)
unless-is (Some halt) which after = tt
unless-is None which after = tt

-- with no silent step before it
has-at-rest : (run : Run) (S : State) (t : ℕ) (next : Arrival) → arrival S.world t ≡ next → (next ≡ Steps → ⊥) → has_outcome (after_steps run S 0 t next).outcome ≡ goes_on next
has-at-rest run S t Waits is other = refl
has-at-rest run S t Steps is other = absurd (other refl)
has-at-rest run S t CodeEvent is other = has-going (state_past_masked S t) 0 t (go_of_code run (with_masked_skipped S.world t) t) (comes_goes (with_masked_skipped S.world t) t run (comes-past S.world t is))
has-at-rest run S t (RuntimeEvent event) is other = has-going S 0 t (go_of_runtime S.world t event) (unless-is (fault_of S.world t event) event (effect_of S.world t event))

-- behind a silent step there is always an outcome
quiet-behind : (S : State) (made : ℕ) → has_outcome (without_event S (suc made)).outcome ≡ true
quiet-behind S made = rw (lt-ltb 0 (suc made) (omega arith))

going-behind : (S : State) (made t : ℕ) (going : Going) → has_outcome (with_going S (suc made) t going).outcome ≡ true
going-behind S made t Nothing = quiet-behind S made
going-behind S made t (Happens event after) = refl
going-behind S made t (Halts halt) = refl

has-behind : (run : Run) (S : State) (made t : ℕ) (next : Arrival) → has_outcome (after_steps run S (suc made) t next).outcome ≡ true
has-behind run S made t Waits = quiet-behind S made
has-behind run S made t Steps = quiet-behind S made
has-behind run S made t CodeEvent = going-behind (state_past_masked S t) made t (go_of_code run (with_masked_skipped S.world t) t)
has-behind run S made t (RuntimeEvent event) = going-behind S made t (go_of_runtime S.world t event)

abbrev ends_well : Run → ℕ → Walk → Bool
ends_well run t it = has_outcome (after_walk run it t it.stop).outcome

has-by : (run : Run) (S : State) (made t : ℕ) (silence : Silence) (more : World → Walk) → ((W : World) → ends_well run t (more W) ≡ true) → ends_well run t (walk_by S made silence more) ≡ true
has-by run S made t (Goes after) more has = has after
has-by run S made t (Stops halt) more has = refl

has-step : (run : Run) (S : State) (made t : ℕ) (over : Bool) (more : World → Walk) → ((W : World) → ends_well run t (more W) ≡ true) →
    ends_well run t (if over then walked S made (Some (Limit STEPS)) else walk_by (state_past_masked S t) made (silent_step run S.world t) more) ≡ true
has-step run S made t true more has = refl
has-step run S made t false more has = has-by run (state_past_masked S t) made t (silent_step run S.world t) more has

has-on : (run : Run) (S : State) (made t : ℕ) (next : Arrival) (more : World → Walk) → ((W : World) → ends_well run t (more W) ≡ true) → ends_well run t (walk_on run S t (suc made) next more) ≡ true
has-on run S made t Steps more has = has-step run S (suc made) t (nat_le run.steps S.steps) more has
has-on run S made t Waits more has = has-behind run S made t (arrival S.world t)
has-on run S made t CodeEvent more has = has-behind run S made t (arrival S.world t)
has-on run S made t (RuntimeEvent event) more has = has-behind run S made t (arrival S.world t)

has-walk : (run : Run) (left made : ℕ) (S : State) (t : ℕ) → ends_well run t (walk run left (suc made) S t) ≡ true
unfolding walk
has-walk run zero made S t = has-behind run S made t (arrival S.world t)
has-walk run (suc left) made S t =
    has-on run S made t (arrival S.world t) (λ after. walk run left (suc made + 1) (stepped S after) t) (λ W. rw add-one (has-walk run left (suc made) (stepped S W) t))

-- the first look
has-first : (run : Run) (S : State) (t : ℕ) (next : Arrival) (more : World → Walk) → arrival S.world t ≡ next → ((W : World) → ends_well run t (more W) ≡ true) → ends_well run t (walk_on run S t 0 next more) ≡ goes_on next
has-first run S t Steps more is has = has-step run S 0 t (nat_le run.steps S.steps) more has
has-first run S t Waits more is has = subst (λ next. has_outcome (after_steps run S 0 t next).outcome ≡ goes_on Waits) (sym is) (has-at-rest run S t Waits is (λ same. cc))
has-first run S t CodeEvent more is has = subst (λ next. has_outcome (after_steps run S 0 t next).outcome ≡ goes_on CodeEvent) (sym is) (has-at-rest run S t CodeEvent is (λ same. cc))
has-first run S t (RuntimeEvent event) more is has = subst (λ next. has_outcome (after_steps run S 0 t next).outcome ≡ goes_on (RuntimeEvent event)) (sym is) (has-at-rest run S t (RuntimeEvent event) is (λ same. cc))

has-any : (run : Run) (left : ℕ) (S : State) (t : ℕ) → ends_well run t (walk run (suc left) 0 S t) ≡ goes_on (arrival S.world t)
unfolding walk
has-any run left S t =
    has-first run S t (arrival S.world t) (λ after. walk run left (0 + 1) (stepped S after) t) refl (λ W. has-walk run left 0 (stepped S W) t)

-- there is an outcome exactly where the thread doesn't wait
pub has_turn : (run : Run) (S : State) (t : ℕ) → has_outcome (unlimited run S t).outcome ≡ goes_on (arrival S.world t)
unfolding unlimited
has_turn run S t = has-any run 63 S t

pub enabled_turn : (run : Run) (S : State) (t : ℕ) → enabled S t ≡ (is_none (pending_at S t) && is_none S.halt && has_outcome (unlimited run S t).outcome)
unfolding enabled
enabled_turn run S t = ap (λ (goes : Bool). is_none (pending_at S t) && is_none S.halt && goes) (sym (has_turn run S t))

-- what silent steps keep of a state
pub record Keeps (S after : State) : Type 0 where
  pub turns : after.turns ≡ S.turns
  pub halt : after.halt ≡ S.halt
  pub pending : after.pending ≡ S.pending

-- a walk that stops, or goes on as it may, keeps what it may
by-keeps : (S : State) (t made : ℕ) (silence : Silence) (more : World → Walk) → ((W : World) → Keeps S (more W).state) → Keeps S (walk_by (state_past_masked S t) made silence more).state
by-keeps S t made (Goes after) more keeps = keeps after
by-keeps S t made (Stops halt) more keeps = record { turns = refl; halt = refl; pending = refl }

step-keeps : (run : Run) (S : State) (t made : ℕ) (over : Bool) (more : World → Walk) → ((W : World) → Keeps S (more W).state) →
    Keeps S (if over then walked S made (Some (Limit STEPS)) else walk_by (state_past_masked S t) made (silent_step run S.world t) more).state
step-keeps run S t made true more keeps = record { turns = refl; halt = refl; pending = refl }
step-keeps run S t made false more keeps = by-keeps S t made (silent_step run S.world t) more keeps

on-keeps : (run : Run) (S : State) (t made : ℕ) (next : Arrival) (more : World → Walk) → ((W : World) → Keeps S (more W).state) → Keeps S (walk_on run S t made next more).state
on-keeps run S t made Steps more keeps = step-keeps run S t made (nat_le run.steps S.steps) more keeps
on-keeps run S t made Waits more keeps = record { turns = refl; halt = refl; pending = refl }
on-keeps run S t made CodeEvent more keeps = record { turns = refl; halt = refl; pending = refl }
on-keeps run S t made (RuntimeEvent event) more keeps = record { turns = refl; halt = refl; pending = refl }

-- silent steps keep the count of turns, the halt and the pending events
pub walk-keeps : (run : Run) (left made : ℕ) (S : State) (t : ℕ) → Keeps S (walk run left made S t).state
unfolding walk
walk-keeps run zero made S t = record { turns = refl; halt = refl; pending = refl }
walk-keeps run (suc left) made S t =
    on-keeps run S t made (arrival S.world t) (λ after. walk run left (made + 1) (stepped S after) t)
    (λ W. let keeps = walk-keeps run left (made + 1) (stepped S W) t in record { turns = keeps.turns; halt = keeps.halt; pending = keeps.pending })

-- what a turn leaves of a state, by its outcome
abbrev pub Leaves : State → ℕ → State → Outcome → Type 0
Leaves S t after outcome.Idle = (after.turns ≡ S.turns) × (after.halt ≡ S.halt) × (after.pending ≡ S.pending)
Leaves S t after outcome.Quiet = (after.turns ≡ S.turns + 1) × (after.halt ≡ S.halt) × (after.pending ≡ S.pending)
Leaves S t after (outcome.Happens e) = (after.turns ≡ S.turns + 1) × (after.halt ≡ S.halt) × (after.pending ≡ slice_set S.pending t (Some (called e)))
Leaves S t after (outcome.Halts h) = (after.turns ≡ S.turns + 1) × (after.halt ≡ Some h) × (after.pending ≡ S.pending)

-- what follows the silent steps
leaves-without : (S : State) (made t : ℕ) → Leaves S t (without_event S made).state (without_event S made).outcome
leaves-without S made t = elim (nat_lt 0 made) as (λ b. let T : Turn = if b then record { outcome = outcome.Quiet; state = counted S } else record { outcome = outcome.Idle; state = S } in Leaves S t T.state T.outcome) [ true ↦ (refl, refl, refl) | false ↦ (refl, refl, refl) ]

leaves-going : (S : State) (made t : ℕ) (going : Going) → Leaves S t (with_going S made t going).state (with_going S made t going).outcome
leaves-going S made t Nothing = leaves-without S made t
leaves-going S made t (Happens event after) = (refl, refl, refl)
leaves-going S made t (Halts halt) = (refl, refl, refl)

leaves-after-steps : (run : Run) (S : State) (made t : ℕ) (next : Arrival) → Leaves S t (after_steps run S made t next).state (after_steps run S made t next).outcome
leaves-after-steps run S made t Waits = leaves-without S made t
leaves-after-steps run S made t Steps = leaves-without S made t
leaves-after-steps run S made t CodeEvent = leaves-going (state_past_masked S t) made t (go_of_code run (with_masked_skipped S.world t) t)
leaves-after-steps run S made t (RuntimeEvent event) = leaves-going S made t (go_of_runtime S.world t event)

-- a walk's state, from which the turn goes on or at which it stops
leaves-after-walk : (run : Run) (w : Walk) (t : ℕ) (h : Option Halt) → Leaves w.state t (after_walk run w t h).state (after_walk run w t h).outcome
leaves-after-walk run w t None = leaves-after-steps run w.state w.made t (arrival w.state.world t)
leaves-after-walk run w t (Some h) = (refl, refl, refl)

-- what is left of the state after the silent steps is left of the one before
leaves-before : (S between after : State) (t : ℕ) (o : Outcome) → Keeps S between → Leaves between t after o → Leaves S t after o
leaves-before S between after t outcome.Idle keeps leaves = (cc, cc, cc)
leaves-before S between after t outcome.Quiet keeps leaves = (cc, cc, cc)
leaves-before S between after t (outcome.Happens e) keeps leaves = (cc, cc, cc)
leaves-before S between after t (outcome.Halts h) keeps leaves = (cc, cc, cc)

-- what a turn leaves, but for the limit of turns
leaves-unlimited : (run : Run) (S : State) (t : ℕ) → Leaves S t (unlimited run S t).state (unlimited run S t).outcome
unfolding unlimited
leaves-unlimited run S t =
    let w = walk run STEPS_OF_A_TURN 0 S t in
    leaves-before S w.state (after_walk run w t w.stop).state t (after_walk run w t w.stop).outcome (walk-keeps run STEPS_OF_A_TURN 0 S t) (leaves-after-walk run w t w.stop)

-- what a turn leaves
pub leaves-turn : (run : Run) (S : State) (t : ℕ) → Leaves S t (turn run S t).state (turn run S t).outcome
unfolding turn
leaves-turn run S t = elim (nat_le TURN_LIMIT (S.turns + 1)) as (λ b. let T : Turn = if b then halted S (Limit TURNS) else unlimited run S t in Leaves S t T.state T.outcome) [ true ↦ (refl, refl, refl) | false ↦ leaves-unlimited run S t ]

-- the outcome doesn't end the run
abbrev leaves_on : Outcome → Bool
leaves_on outcome.Idle = false
leaves_on outcome.Quiet = true
leaves_on (outcome.Happens e) = true
leaves_on (outcome.Halts h) = false

-- a turn that goes on is below the limit
below-limit : (run : Run) (S : State) (t : ℕ) → leaves_on (turn run S t).outcome ≡ true → S.turns + 1 < TURN_LIMIT
unfolding turn
below-limit run S t = elim (nat_le TURN_LIMIT (S.turns + 1)) as (λ b. nat_le TURN_LIMIT (S.turns + 1) ≡ b → leaves_on (if◌then◌else◌ {A = Turn} b (halted S (Limit TURNS)) (unlimited run S t)).outcome ≡ true → S.turns + 1 < TURN_LIMIT) [ true ↦ λ reached goes. absurd (true≢false (sym goes)) | false ↦ λ below goes. leb-false TURN_LIMIT (S.turns + 1) below ] refl

-- an option that is none
none_from : {A : Type 0} (o : Option A) → is_none o ≡ true → o ≡ None
none_from None is = refl
none_from (Some x) is = absurd (true≢false (sym is))

-- what is so of a state where a thread is enabled
pub record TurnGoes (S : State) (t : ℕ) : Type 0 where
  pub halt : S.halt ≡ None
  pub outside : pending_at S t ≡ None

-- an enabled thread is inside no callback, and the run isn't halted
pub turn-goes : (S : State) (t : ℕ) → enabled S t ≡ true → TurnGoes S t
unfolding enabled
turn-goes S t goes =
    let parts = and_parts (is_none (pending_at S t) && is_none S.halt) (goes_on (arrival S.world t)) goes in
    let before = and_parts (is_none (pending_at S t)) (is_none S.halt) parts.0 in
    record { halt = none_from S.halt before.1; outside = none_from (pending_at S t) before.0 }

-- an enabled thread has an outcome, also at the limit of turns
has-its-turn : (run : Run) (S : State) (t : ℕ) → enabled S t ≡ true → has_outcome (turn run S t).outcome ≡ true
unfolding enabled turn
has-its-turn run S t goes =
    let parts = and_parts (is_none (pending_at S t) && is_none S.halt) (has_outcome (unlimited run S t).outcome) (sym (enabled_turn run S t) ∙ goes) in
    elim (nat_le TURN_LIMIT (S.turns + 1)) as (λ b. has_outcome (if◌then◌else◌ {A = Turn} b (halted S (Limit TURNS)) (unlimited run S t)).outcome ≡ true) [ true ↦ refl | false ↦ parts.1 ]

-- the turn of an enabled thread is one
pub turn-not_idle : (run : Run) (S : State) (t : ℕ) → enabled S t ≡ true → (turn run S t).outcome ≡ outcome.Idle → ⊥
turn-not_idle run S t goes idle = true≢false (sym (has-its-turn run S t goes) ∙ ap has_outcome idle)

-- what is so after a turn that goes on: the counts, the limit, and that nothing has halted the run
pub record Went (S after : State) : Type 0 where
  pub turns : after.turns ≡ S.turns + 1
  pub below : S.turns + 1 < TURN_LIMIT
  pub halt : after.halt ≡ None

-- what a turn leaves, at an outcome that is known
leaves-at : (run : Run) (S : State) (t : ℕ) (o : Outcome) → (turn run S t).outcome ≡ o → Leaves S t (turn run S t).state o
leaves-at run S t o is = subst (λ (x : Outcome). Leaves S t (turn run S t).state x) is (leaves-turn run S t)

-- an enabled thread's turn of silent steps alone
pub turn-quiet : (run : Run) (S : State) (t : ℕ) → enabled S t ≡ true → (turn run S t).outcome ≡ outcome.Quiet → Went S (turn run S t).state
turn-quiet run S t goes is =
    let leaves = leaves-at run S t outcome.Quiet is in
    record { turns = leaves.0; below = below-limit run S t (ap leaves_on is); halt = leaves.1 ∙ (turn-goes S t goes).halt }

-- an enabled thread's turn with an event
pub turn-happens : (run : Run) (S : State) (t : ℕ) (e : Event) → enabled S t ≡ true → (turn run S t).outcome ≡ outcome.Happens e → Went S (turn run S t).state
turn-happens run S t e goes is =
    let leaves = leaves-at run S t (outcome.Happens e) is in
    record { turns = leaves.0; below = below-limit run S t (ap leaves_on is); halt = leaves.1 ∙ (turn-goes S t goes).halt }

-- the thread is inside the callback of its event
pub turn-pending : (run : Run) (S : State) (t : ℕ) (e : Event) → (turn run S t).outcome ≡ outcome.Happens e → (turn run S t).state.pending ≡ slice_set S.pending t (Some (called e))
turn-pending run S t e is = (leaves-at run S t (outcome.Happens e) is).2

-- a turn of silent steps keeps the pending events
pub quiet-pending : (run : Run) (S : State) (t : ℕ) → (turn run S t).outcome ≡ outcome.Quiet → (turn run S t).state.pending ≡ S.pending
quiet-pending run S t is = (leaves-at run S t outcome.Quiet is).2

-- a turn that ends the run keeps the pending events
pub halts-pending : (run : Run) (S : State) (t : ℕ) (h : Halt) → (turn run S t).outcome ≡ outcome.Halts h → (turn run S t).state.pending ≡ S.pending
halts-pending run S t h is = (leaves-at run S t (outcome.Halts h) is).2

-- what is so after a turn that ends the run
pub record Ended (S after : State) (h : Halt) : Type 0 where
  pub turns : after.turns ≡ S.turns + 1
  pub halt : after.halt ≡ Some h

-- a turn that meets a trap or a limit
pub turn-halts : (run : Run) (S : State) (t : ℕ) (h : Halt) → (turn run S t).outcome ≡ outcome.Halts h → Ended S (turn run S t).state h
turn-halts run S t h is = let leaves = leaves-at run S t (outcome.Halts h) is in record { turns = leaves.0; halt = leaves.1 }

-- a turn that is one raises the count of turns
rises : (S after : State) (t : ℕ) (o : Outcome) → has_outcome o ≡ true → Leaves S t after o → after.turns ≡ S.turns + 1
rises S after t outcome.Idle has leaves = absurd (true≢false (sym has))
rises S after t outcome.Quiet has leaves = leaves.0
rises S after t (outcome.Happens e) has leaves = leaves.0
rises S after t (outcome.Halts h) has leaves = leaves.0

-- each turn of an enabled thread raises the count of turns by one
pub turns-rise : (run : Run) (S : State) (t : ℕ) → enabled S t ≡ true → (turn run S t).state.turns ≡ S.turns + 1
turns-rise run S t goes = rises S (turn run S t).state t (turn run S t).outcome (has-its-turn run S t goes) (leaves-turn run S t)

-- a return changes neither the count of turns nor the halt, whether or not there is a pending event
back_from-keeps : (S : State) (t : ℕ) (o : Option Callback) → ((back_from S t o).turns ≡ S.turns) × ((back_from S t o).halt ≡ S.halt)
back_from-keeps S t None = (refl, refl)
back_from-keeps S t (Some callback) = (refl, refl)

-- a callback's return keeps the count of turns
pub back-turns : (S : State) (t : ℕ) → (back S t).turns ≡ S.turns
back-turns S t = (back_from-keeps S t (pending_at S t)).0

-- a callback's return keeps what halted the run
pub back-halt : (S : State) (t : ℕ) → (back S t).halt ≡ S.halt
back-halt S t = (back_from-keeps S t (pending_at S t)).1

-- a turn with this outcome is below the limit where it leaves the run going
below-at : (run : Run) (S : State) (t : ℕ) (o : Outcome) → enabled S t ≡ true → (turn run S t).outcome ≡ o → (turn run S t).state.halt ≡ None → (turn run S t).state.turns < TURN_LIMIT
below-at run S t outcome.Idle goes is on = absurd (turn-not_idle run S t goes is)
below-at run S t outcome.Quiet goes is on = let went = turn-quiet run S t goes is in omega arith
below-at run S t (outcome.Happens e) goes is on = let went = turn-happens run S t e goes is in omega arith
below-at run S t (outcome.Halts h) goes is on = let ended = turn-halts run S t h is in cc

-- where an enabled thread's turn leaves the run going, the count of turns is below the limit
pub turn-below : (run : Run) (S : State) (t : ℕ) → enabled S t ≡ true → (turn run S t).state.halt ≡ None → (turn run S t).state.turns < TURN_LIMIT
turn-below run S t goes on = below-at run S t (turn run S t).outcome goes refl on
