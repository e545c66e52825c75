use Rattle.std.proofs.Common.{◌≡◌, get_or, subst, arith, rules}
use Rattle.test_thread_runs.proofs.in_turn.closed_in_turn.Goals as goal

pub close-requires-clause-order : goal.close-requires-clause-order
close-requires-clause-order g c κs within = λ k d less.
    subst (λ passes. (get_or passes k d).thread ≡ k) c.deref.ensures.value (c.are_in_order.ensures.order (search rules) k d (omega (arith, less, c.requires.threads)))
