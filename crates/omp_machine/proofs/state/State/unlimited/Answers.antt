use Rattle.std.proofs.Common.{◌∙◌}
use Rattle.omp_machine.proofs.Walking.{no-step, turn-at_rest}
use Rattle.omp_machine.proofs.state.State.unlimited.Goals as goal

pub returns-in-Waits-clause-turn : goal.returns-in-Waits-clause-turn
returns-in-Waits-clause-turn c = λ run program steps.
    turn-at_rest run c.args.self.now.state c.args.thread (λ next. no-step c.args.next c.in-Waits.is (c.requires.arrival ∙ next)) ∙ c.after_steps.ensures.turn run program
