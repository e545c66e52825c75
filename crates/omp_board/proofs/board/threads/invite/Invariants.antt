use Rattle.std.proofs.Common.{◌≡◌}
use Rattle.omp_model.specs.Changes.{with_invitations}
use Rattle.omp_board.proofs.board.threads.invite.Given as goal

abbrev pub invariant-loop-thread : goal.invariant-loop-thread
invariant-loop-thread l = l.thread-items ≡ with_invitations l.region l.thread-index l.initial.thread-items
