-- One more silent step of a walk, or its end.
use Rattle.std.proofs.Common.{◌⊎◌, inl, inr, ◌≡◌, ℕ, zero, suc, ◌+◌, ◌-◌, ◌<◌, ◌≤◌, ◌∙◌, Bool, true, false, nat_le, Some, None, refl, sym, ap, subst, arith}
use Rattle.std.proofs.lemmas.Bool.{lt-leb}
use Rattle.c_syntax.specs.language.Numbered.{TreeView}
use Rattle.omp_model.specs.declared.limits.TheConstants.{STEPS, STEPS_OF_A_TURN}
use Rattle.omp_model.specs.declared.event.Arrival.{Arrival}
use Rattle.omp_model.specs.declared.event.Arrival.TheVariants.{Waits, Steps, CodeEvent, RuntimeEvent}
use Rattle.omp_model.specs.declared.event.Event.{Event}
use Rattle.omp_model.specs.declared.event.Halt.{Halt}
use Rattle.omp_model.specs.declared.event.Halt.TheVariants.{Limit}
use Rattle.omp_model.specs.State.{Run, World, State}
use Rattle.omp_model.specs.Gates.{arrival}
use Rattle.omp_model.specs.Silent.{Goes, Stops, silent_step}
use Rattle.c_model.specs.declared.view.View.{View}
use Rattle.omp_model.specs.Members.{view_of}
use Rattle.omp_board.specs.Board.{BoardRoom, BoardView, HasEvent, HasTurn, run_of}
use Rattle.omp_board.specs.Board as boards
use Rattle.omp_board.specs.Tasks.{steps_ahead}
use Rattle.omp_machine.specs.State.{HaveStepped, SameCounts, StateView, board_of}
use Rattle.omp_machine.proofs.Programs.{same-silence}
use Rattle.omp_model.specs.Turn.{Walk, after_steps, after_walk, state_past_masked, stepped, unlimited, walk, walk_by, walk_on, walked}

-- where no step stands next, the walk is over
on-rest : (run : Run) (S : State) (t made : ℕ) (next : Arrival) (more : World → Walk) → (next ≡ Steps → ⊥) → walk_on run S t made next more ≡ walked S made None
on-rest run S t made Waits more rest = refl
on-rest run S t made Steps more rest = absurd (rest refl)
on-rest run S t made CodeEvent more rest = refl
on-rest run S t made (RuntimeEvent event) more rest = refl

pub walk-at_rest : (run : Run) (left made : ℕ) (S : State) (t : ℕ) → (arrival S.world t ≡ Steps → ⊥) → walk run left made S t ≡ walked S made None
unfolding walk
walk-at_rest run zero made S t rest = refl
walk-at_rest run (suc left) made S t rest = on-rest run S t made (arrival S.world t) (λ after. walk run left (made + 1) (stepped S after) t) rest

-- and the turn goes on with what the thread has come to
pub turn-at_rest : (run : Run) (S : State) (t : ℕ) → (arrival S.world t ≡ Steps → ⊥) → unlimited run S t ≡ after_steps run S 0 t (arrival S.world t)
unfolding unlimited
turn-at_rest run S t rest = ap (λ (steps : Walk). after_walk run steps t steps.stop) (walk-at_rest run STEPS_OF_A_TURN 0 S t rest)

-- where all steps were made, a step that stands next meets the limit; else it is made, or stops the run
by-steps : (run : Run) (left made : ℕ) (S : State) (t : ℕ) → arrival S.world t ≡ Steps → walk run (suc left) made S t ≡ walk_on run S t made Steps (λ after. walk run left (made + 1) (stepped S after) t)
unfolding walk
by-steps run left made S t next = ap (λ a. walk_on run S t made a (λ after. walk run left (made + 1) (stepped S after) t)) next

pub walk-spent : (run : Run) (left made : ℕ) (S : State) (t : ℕ) → arrival S.world t ≡ Steps → nat_le run.steps S.steps ≡ true → walk run (suc left) made S t ≡ walked S made (Some (Limit STEPS))
walk-spent run left made S t next spent = by-steps run left made S t next ∙ rw spent refl

by-silence : (run : Run) (left made : ℕ) (S : State) (t : ℕ) → arrival S.world t ≡ Steps → nat_le run.steps S.steps ≡ false → walk run (suc left) made S t ≡ walk_by (state_past_masked S t) made (silent_step run S.world t) (λ after. walk run left (made + 1) (stepped S after) t)
by-silence run left made S t next more = by-steps run left made S t next ∙ rw more refl

pub walk-goes : (run : Run) (left made : ℕ) (S : State) (t : ℕ) (after : World) → arrival S.world t ≡ Steps → nat_le run.steps S.steps ≡ false → silent_step run S.world t ≡ Goes after → walk run (suc left) made S t ≡ walk run left (made + 1) (stepped S after) t
walk-goes run left made S t after next more goes =
    by-silence run left made S t next more ∙ ap (λ silence. walk_by (state_past_masked S t) made silence (λ after. walk run left (made + 1) (stepped S after) t)) goes

pub walk-stops : (run : Run) (left made : ℕ) (S : State) (t : ℕ) (halt : Halt) → arrival S.world t ≡ Steps → nat_le run.steps S.steps ≡ false → silent_step run S.world t ≡ Stops halt → walk run (suc left) made S t ≡ walked (state_past_masked S t) made (Some halt)
walk-stops run left made S t halt next more stops =
    by-silence run left made S t next more ∙ ap (λ silence. walk_by (state_past_masked S t) made silence (λ after. walk run left (made + 1) (stepped S after) t)) stops

-- the steps that are left, counted by one
pub left-suc : (most made : ℕ) → made < most → most - made ≡ suc (most - (made + 1))
left-suc most made below = omega arith

-- where as many steps as there may be were made, the walk is over
pub walk-over : (run : Run) (most made : ℕ) (S : State) (t : ℕ) → most ≤ made → made ≤ most → walk run (most - made) made S t ≡ walked S most None
unfolding walk
walk-over run most made S t reached within =
    let none : most - made ≡ 0 = omega arith in
    let all : made ≡ most = omega arith in
    rw (none, all)

-- what is waits, or an event, is no step
pub no-step : (next : Arrival) → (next ≡ Waits) ⊎ ((next ≡ CodeEvent) ⊎ ((event : Event) × next ≡ RuntimeEvent event)) → next ≡ Steps → ⊥
no-step next (inl waits) steps = cc
no-step next (inr (inl comes)) steps = cc
no-step next (inr (inr (event, meets))) steps = cc

-- one silent step more was made, where the program is this
pub one_more : (run : Run) (made : ℕ) (program : TreeView) (S after : State) (t : ℕ) → made < STEPS_OF_A_TURN → run.program ≡ program → nat_le run.steps S.steps ≡ false → arrival S.world t ≡ Steps → silent_step (run_of program) S.world t ≡ Goes after.world → after ≡ stepped S after.world →
    walk run (STEPS_OF_A_TURN - made) made S t ≡ walk run (STEPS_OF_A_TURN - (made + 1)) (made + 1) after t
one_more run made program S after t below is more arrives goes counted =
    ap (λ left. walk run left made S t) (left-suc STEPS_OF_A_TURN made below)
    ∙ walk-goes run (STEPS_OF_A_TURN - (made + 1)) made S t after.world arrives more (same-silence run S.world t ∙ ap (λ p. silent_step (run_of p) S.world t) is ∙ goes)
    ∙ ap (λ (next : State). walk run (STEPS_OF_A_TURN - (made + 1)) (made + 1) next t) (sym counted)

-- the state when so many silent steps have come to this world
abbrev pub with_steps : State → ℕ → World → State
with_steps S count W = record S { world = W; steps = S.steps + count }

-- what many steps leave
program_kept : (count : ℕ) (old new : BoardView) (t : ℕ) → boards.HaveStepped count old t new → new.program ≡ old.program
program_kept zero old new t same = ap (λ (view : BoardView). view.program) same
program_kept (suc count) old new t (between, (so, last)) = last.program ∙ program_kept count old between t so

room_kept : (count : ℕ) (old new : BoardView) (t : ℕ) → boards.HaveStepped count old t new → new.room ≡ record old.room { steps = new.room.steps }
room_kept zero old new t same = subst (λ (view : BoardView). view.room ≡ record old.room { steps = view.room.steps }) (sym same) refl
room_kept (suc count) old new t (between, (so, last)) = last.room ∙ ap (λ (room : BoardRoom). record room { steps = new.room.steps }) (room_kept count old between t so)

steps_kept : (count : ℕ) (old new : BoardView) (t : ℕ) → boards.HaveStepped count old t new → old.room.steps ≤ new.room.steps + count
steps_kept zero old new t same = let steps = ap (λ (view : BoardView). view.room.steps) same in omega (arith, steps)
steps_kept (suc count) old new t (between, (so, last)) = let before = steps_kept count old between t so in omega (arith, before, last.steps)

turn_kept : (count : ℕ) (old new : BoardView) (t : ℕ) → boards.HaveStepped count old t new → HasTurn old.room old.world t → HasTurn new.room new.world t
turn_kept zero old new t same turn = subst (λ (view : BoardView). HasTurn view.room view.world t) (sym same) turn
turn_kept (suc count) old new t (between, (so, last)) turn = last.turn

view_kept : (count : ℕ) (old new : BoardView) (t : ℕ) → boards.HaveStepped count old t new → view_of new.world t ≡ view_of old.world t
view_kept zero old new t same = ap (λ (view : BoardView). view_of view.world t) same
view_kept (suc count) old new t (between, (so, last)) = last.view ∙ view_kept count old between t so

-- so many silent steps more were made
many_more : (run : Run) (made count : ℕ) (old new : BoardView) (S : State) (t : ℕ) → S.world ≡ old.world → run.program ≡ old.program → made + count ≤ STEPS_OF_A_TURN → S.steps + count ≤ run.steps → boards.HaveStepped count old t new →
    walk run (STEPS_OF_A_TURN - made) made S t ≡ walk run (STEPS_OF_A_TURN - (made + count)) (made + count) (with_steps S count new.world) t
many_more run made zero old new S t at is within under same =
    let none : made ≡ made + zero = omega arith in
    let steps : S.steps ≡ S.steps + zero = omega arith in
    let world : S.world ≡ new.world = at ∙ sym (ap (λ (view : BoardView). view.world) same) in
    ap (λ (made : ℕ). walk run (STEPS_OF_A_TURN - made) made S t) none
    ∙ ap (λ (now : State). walk run (STEPS_OF_A_TURN - (made + zero)) (made + zero) now t) (λ i. record S { world = world i; steps = steps i })
many_more run made (suc count) old new S t at is within under (between, (so, last)) =
    let before : State = with_steps S count between.world in
    let after : State = with_steps S (suc count) new.world in
    let next : (made + count) + 1 ≡ made + suc count = omega arith in
    let steps : S.steps + suc count ≡ (S.steps + count) + 1 = omega arith in
    many_more run made count old between S t at is (omega (arith, within)) (omega (arith, under)) so
    ∙ one_more run (made + count) between.program before after t (omega (arith, within)) (is ∙ sym (program_kept count old between t so)) (lt-leb run.steps (S.steps + count) (omega (arith, under))) last.arrives last.silence
    (λ i. record S { world = new.world; steps = steps i })
    ∙ ap (λ (made : ℕ). walk run (STEPS_OF_A_TURN - made) made after t) next

-- the room that they leave
pub room_behind : (before after : BoardRoom) (W V : World) (t : ℕ) → HasEvent before W t → after ≡ record before { steps = after.steps } → HasTurn after V t → 2 ≤ after.steps → HasEvent after V t
room_behind before after W V t kept room turn steps = record {
  turn = turn;
  steps = steps;
  passes = omega (arith, kept.passes, ap (λ (room : BoardRoom). room.passes) room);
  tasks = omega (arith, kept.tasks, ap (λ (room : BoardRoom). room.tasks) room);
  meetings = omega (arith, kept.meetings, ap (λ (room : BoardRoom). room.meetings) room);
  regions = omega (arith, kept.regions, ap (λ (room : BoardRoom). room.regions) room);
  locks = omega (arith, kept.locks, ap (λ (room : BoardRoom). room.locks) room);
}

-- what is left of a walk of so many steps with room for it, and what it leaves
pub record IsOnWalk (initial : StateView) (limit t : ℕ) (sight : View) (made : ℕ) (now : StateView) : Type 0 where
  pub walk : (run : Run) → run.program ≡ initial.program → run.steps ≡ limit → walk run STEPS_OF_A_TURN 0 initial.state t ≡ walk run (STEPS_OF_A_TURN - made) made now.state t
  pub most : made ≤ STEPS_OF_A_TURN
  pub program : now.program ≡ initial.program
  pub counts : SameCounts initial.state now.state
  pub room : HasEvent now.room now.state.world t
  pub steps : steps_ahead ≤ now.room.steps + made
  pub view : sight ≡ view_of now.state.world t

module _ (initial : StateView) (limit t : ℕ) (sight : View) (made : ℕ) (now : StateView) (on : IsOnWalk initial limit t sight made now) where
  -- after so many more
  pub many_on : (count : ℕ) (new : StateView) → HaveStepped now t count new → made + count ≤ STEPS_OF_A_TURN → now.state.steps + count ≤ limit → IsOnWalk initial limit t sight (made + count) new
  many_on count new so within under =
      let left = steps_kept count (board_of now) (board_of new) t so.steps in
      record {
        walk = λ run program steps.
            let bound : run.steps ≡ limit = steps in
            on.walk run program steps
            ∙ many_more run made count (board_of now) (board_of new) now.state t refl (program ∙ sym on.program) within (omega (arith, under, bound)) so.steps
            ∙ ap (λ (after : State). walk run (STEPS_OF_A_TURN - (made + count)) (made + count) after t) (sym so.counted);
        most = within;
        program = program_kept count (board_of now) (board_of new) t so.steps ∙ on.program;
        counts = record {
          turns = ap (λ (next : State). next.turns) so.counted ∙ on.counts.turns;
          pending = ap (λ (next : State). next.pending) so.counted ∙ on.counts.pending;
          halt = ap (λ (next : State). next.halt) so.counted ∙ on.counts.halt;
        };
        room = room_behind now.room new.room now.state.world new.state.world t on.room (room_kept count (board_of now) (board_of new) t so.steps)
            (turn_kept count (board_of now) (board_of new) t so.steps on.room.turn) (omega (arith, on.steps, left, within));
        steps = omega (arith, on.steps, left);
        view = on.view ∙ sym (view_kept count (board_of now) (board_of new) t so.steps);
      }

  -- after one more
  pub one_on : (new : StateView) → made < STEPS_OF_A_TURN → now.state.steps < limit → arrival now.state.world t ≡ Steps → silent_step (run_of now.program) now.state.world t ≡ Goes new.state.world → new.state ≡ stepped now.state new.state.world →
      new.program ≡ now.program → new.room ≡ record now.room { steps = new.room.steps } → now.room.steps ≤ new.room.steps + 1 → HasTurn new.room new.state.world t → sight ≡ view_of new.state.world t → IsOnWalk initial limit t sight (made + 1) new
  one_on new below under arrives goes counted program room steps turn view = record {
    walk = λ run is bound.
        let most : run.steps ≡ limit = bound in
        on.walk run is bound ∙ one_more run made now.program now.state new.state t below (is ∙ sym on.program) (lt-leb run.steps now.state.steps (omega (arith, under, most))) arrives goes counted;
    most = omega (arith, below);
    program = program ∙ on.program;
    counts = record {
      turns = ap (λ (next : State). next.turns) counted ∙ on.counts.turns;
      pending = ap (λ (next : State). next.pending) counted ∙ on.counts.pending;
      halt = ap (λ (next : State). next.halt) counted ∙ on.counts.halt;
    };
    room = room_behind now.room new.room now.state.world new.state.world t on.room room turn (omega (arith, on.steps, steps, below));
    steps = omega (arith, on.steps, steps);
    view = view;
  }
