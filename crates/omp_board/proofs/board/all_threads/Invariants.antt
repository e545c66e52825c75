use Rattle.std.proofs.Common.{◌≡◌, ◌∷◌, replicate}
use Rattle.omp_model.specs.State.{initial_thread, unmade}
use Rattle.omp_board.proofs.board.all_threads.Given as goal

abbrev pub invariant-loop-made : goal.invariant-loop-made
invariant-loop-made l = l.all.items ≡ initial_thread ∷ replicate l._made unmade
