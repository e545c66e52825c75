use Rattle.std.proofs.Common.{arith, rules, ◌-◌}
use Rattle.std.proofs.lemmas.List.{length-replicate}
use Rattle.omp_model.specs.State.{unmade}
use Rattle.omp_board.proofs.board.Board.new.Goals as goal

-- There are as many threads as were asked for.
pub invariant_of-result : goal.invariant_of-result
invariant_of-result c = record {
  some = rw (c.in_ok-threads.ensures) (omega (arith, length-replicate (c.args.threads - 1) unmade));
  few = rw (c.in_ok-threads.ensures) (omega (arith, length-replicate (c.args.threads - 1) unmade, c.requires.some, c.requires.few));
  one = search rules;
  room = search rules;
  places = search rules;
}
