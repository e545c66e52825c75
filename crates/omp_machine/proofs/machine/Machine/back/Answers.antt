use Rattle.std.proofs.Common.{subst, sym}
use Rattle.omp_machine.specs.State.{StateView, run_in}
use Rattle.omp_machine.specs.MachineView.{IsSound}
use Rattle.omp_machine.proofs.Sound.{sound-back}
use Rattle.omp_machine.proofs.machine.Machine.back.Goals as goal

pub invariant_of-self : goal.invariant_of-self
invariant_of-self c =
    subst (λ (after : StateView). IsSound (run_in after.program c.self.inside.settings) after.state) (sym c.back.ensures) (sound-back (run_in c.self.inside.state.program c.self.inside.settings) c.self.inside.state.state c.args.thread c.self.invariant)
