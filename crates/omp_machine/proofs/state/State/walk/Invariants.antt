use Rattle.std.proofs.Common.{ℕ, ◌-◌}
use Rattle.c_steps.specs.Scopes.{HasNumbers}
use Rattle.omp_model.specs.declared.limits.TheConstants.{STEPS_OF_A_TURN}
use Rattle.omp_machine.proofs.Walking.{IsOnWalk}
use Rattle.omp_machine.proofs.state.State.walk.Given as goal

-- what is left of the walk, with room for it, and what it leaves
abbrev pub invariant-loop-made : goal.invariant-loop-made
invariant-loop-made l =
    record {
      on : IsOnWalk l.initial.self l.limit l.thread l.view l.made l.self;
      numbers : HasNumbers l.view;
    }

abbrev pub decreases-loop-made : goal.decreases-loop-made
decreases-loop-made l = STEPS_OF_A_TURN - l.made
