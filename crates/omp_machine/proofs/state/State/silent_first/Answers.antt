use Rattle.std.proofs.Common.{refl, subst}
use Rattle.omp_model.specs.declared.limits.TheConstants.{STEPS_OF_A_TURN}
use Rattle.omp_model.specs.MadeWorld.{IsMadeWorld}
use Rattle.omp_model.specs.State.{Run}
use Rattle.omp_model.specs.Turn.{Walk}
use Rattle.omp_model.proofs.Guards.{made-walk}
use Rattle.omp_machine.proofs.state.State.silent_first.Goals as goal

pub after_steps-requires-clause-world : goal.after_steps-requires-clause-world
after_steps-requires-clause-world c =
    let run : Run = record { program = c.args.self.now.program; mask = 0; threads = 0; steps = c.args.limit } in
    subst (λ (w : Walk). IsMadeWorld w.state.world) (c.walk-walk.ensures.walk run refl refl) (made-walk run c.args.self.now.state c.args.thread STEPS_OF_A_TURN 0 c.requires.world)
