use Rattle.test_thread_runs.proofs.in_turn.begin_the_region.Goals as goal

pub answer-requires-after_bounds : goal.answer-requires-after_bounds
answer-requires-after_bounds g c κs within =
    record { seq = c.in-Told.seq; call = c.in-Told.call; owes = rw c.in-Told.is at c.step_of.ensures.owes }
