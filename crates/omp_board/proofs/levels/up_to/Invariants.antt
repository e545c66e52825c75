use Rattle.std.proofs.Common.{◌≡◌, ◌≤◌, length}
use Rattle.std.specs.Prelude.{reverse}
use Rattle.omp_model.specs.Snapshots.{down_from}
use Rattle.omp_board.proofs.levels.up_to.Given as goal

-- the tasks that were gone past aren't the one that is sought
abbrev pub invariant-loop-top : goal.invariant-loop-top
invariant-loop-top l =
    record {
      sought : down_from l.task (reverse l.lowest) ≡ down_from l.task (reverse l.stack);
      few : length l.lowest ≤ length l.stack;
    }

abbrev pub decreases-loop-top : goal.decreases-loop-top
decreases-loop-top l = length l.lowest
