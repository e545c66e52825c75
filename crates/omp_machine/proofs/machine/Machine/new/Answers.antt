use Rattle.std.proofs.Common.{sym, subst}
use Rattle.c_syntax.specs.language.Numbered.{TreeView}
use Rattle.omp_model.specs.State.{Run, State}
use Rattle.omp_machine.specs.declared.settings.Settings.{Settings}
use Rattle.omp_machine.specs.State.{run_in}
use Rattle.omp_machine.specs.MachineView.{IsSound}
use Rattle.omp_machine.proofs.Sound.{sound-first}
use Rattle.omp_machine.proofs.machine.Machine.new.Goals as goal

pub invariant_of-result : goal.invariant_of-result
invariant_of-result c =
    let settings : Settings = record { mask = c.args.mask; limits = c.args.limits } in
    let run : Run = run_in c.args.program settings in
    subst (λ (tree : TreeView). IsSound (run_in tree settings) c.in_ok-state.state.state) (sym c.in_ok-state.ensures.program)
    (subst (λ (state : State). IsSound run state) (sym c.in_ok-state.ensures.first) (sound-first run c.args.limits.some_threads))
