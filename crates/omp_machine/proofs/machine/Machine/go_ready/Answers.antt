use Rattle.std.proofs.Common.{◌≡◌, ◌∙◌, ◌<◌, ℕ, true, ap, sym, subst, refl, IsTrue, IsSome}
use Rattle.c_syntax.specs.language.Numbered.{TreeView}
use Rattle.omp_model.specs.declared.limits.TheConstants.{TURN_LIMIT}
use Rattle.omp_model.specs.Gates.{arrival}
use Rattle.omp_model.specs.MadeWorld.{IsMadeWorld}
use Rattle.omp_model.specs.State.{Run, State, pending_at}
use Rattle.omp_model.specs.Turn.{Turn, turn, enabled}
use Rattle.omp_model.proofs.Turns.{turn-goes}
use Rattle.omp_machine.specs.declared.went.Went.{Went}
use Rattle.omp_machine.specs.State.{StateView, run_in}
use Rattle.omp_machine.specs.MachineView.{MachineView, IsSound, went_after, is_call}
use Rattle.omp_machine.proofs.Sound.{sound-turn, waits-turn}
use Rattle.omp_machine.proofs.machine.Machine.go_ready.Goals as goal

-- room that was made changes nothing of the run and its state
record Reserved (before after : StateView) : Type 0 where
  program : before.program ≡ after.program
  state : before.state ≡ after.state

reserved : (before after : StateView) → after ≡ record before { room = after.room } → Reserved before after
reserved before after kept =
    record { program = sym (ap (λ (view : StateView). view.program) kept); state = sym (ap (λ (view : StateView). view.state) kept) }

-- the turn from the state before it
turned : (before after : StateView) (run : Run) (t : ℕ) (T : Turn) → Reserved before after → turn run after.state t ≡ T → turn run before.state t ≡ T
turned before after run t T same is = subst (λ (state : State). turn run state t ≡ T) (sym same.state) is

pub turn-outcome-requires : goal.turn-outcome-requires
turn-outcome-requires c =
    let on : enabled c.self.inside.state.state c.args.ready.thread ≡ true = subst (λ (m : MachineView). enabled m.state c.args.ready.thread ≡ true) (sym c.self.view_is) c.requires.enabled in
    let left : c.self.inside.state.state.turns < TURN_LIMIT = c.self.invariant.turns_left (turn-goes c.self.inside.state.state c.args.ready.thread on).halt in
    let same = reserved c.self.inside.state c.reserve.new.self c.in_ok-reserve.ensures.kept in
    record {
      arrival = subst (λ (state : State). c.args.ready.arrival ≡ arrival state.world c.args.ready.thread) same.state
          (subst (λ (m : MachineView). c.args.ready.arrival ≡ arrival m.state.world c.args.ready.thread) (sym c.self.view_is) c.requires.arrival);
      turns = subst (λ (state : State). state.turns < TURN_LIMIT) same.state left;
      room = c.in_ok-reserve.ensures.room;
      steps = c.in_ok-reserve.ensures.steps;
      world = subst (λ (state : State). IsMadeWorld state.world) same.state c.self.invariant.made.world;
    }

pub invariant_of-self-2 : goal.invariant_of-self-2
invariant_of-self-2 c =
    let run : Run = run_in c.self.inside.state.program c.self.inside.settings in
    let T : Turn = record { outcome = c.turn-outcome.result; state = c.turn-outcome.new.self.state } in
    let on : enabled c.self.inside.state.state c.args.ready.thread ≡ true = subst (λ (m : MachineView). enabled m.state c.args.ready.thread ≡ true) (sym c.self.view_is) c.requires.enabled in
    let same = reserved c.self.inside.state c.reserve.new.self c.in_ok-reserve.ensures.kept in
    let is = turned c.self.inside.state c.reserve.new.self run c.args.ready.thread T same (c.turn-outcome.ensures.turn run same.program refl) in
    let sound : IsSound run T.state = subst (λ (T : Turn). IsSound run T.state) is (sound-turn run c.self.inside.state.state c.args.ready.thread on c.self.invariant) in
    subst (λ (tree : TreeView). IsSound (run_in tree c.self.inside.settings) T.state) (same.program ∙ sym c.turn-outcome.ensures.program) sound

pub returns-clause-waits : goal.returns-clause-waits
returns-clause-waits c = λ call.
    let run : Run = run_in c.self.inside.state.program c.self.inside.settings in
    let T : Turn = record { outcome = c.turn-outcome.result; state = c.turn-outcome.new.self.state } in
    let same = reserved c.self.inside.state c.reserve.new.self c.in_ok-reserve.ensures.kept in
    let is = turned c.self.inside.state c.reserve.new.self run c.args.ready.thread T same (c.turn-outcome.ensures.turn run same.program refl) in
    subst (λ (T : Turn). IsTrue (is_call (went_after run T.state c.args.ready.thread T.outcome)) → IsSome (pending_at T.state c.args.ready.thread)) is (waits-turn run c.self.inside.state.state c.args.ready.thread c.self.invariant.made)
    (subst (λ (went : Went). IsTrue (is_call went)) (c.went.ensures run refl) call)
