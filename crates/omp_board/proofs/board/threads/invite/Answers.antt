use Rattle.std.proofs.Common.{add-one, ap, ◌∙◌, get_or, set, arith}
use Rattle.omp_model.specs.State.{Thread}
use Rattle.omp_model.specs.Changes.{with_invitation}
use Rattle.omp_board.proofs.Summoning.{all_of, none_yet, one_more}
use Rattle.omp_board.proofs.board.threads.invite.Goals as goal

pub loop-thread-init : goal.loop-thread-init
loop-thread-init c = none_yet _ _

pub loop-thread-preserved : goal.loop-thread-preserved
loop-thread-preserved c =
    let i = c.loop-thread.thread-index in
    rw add-one
    (ap (λ (thread : Thread). set c.loop-thread.thread-items i thread) c.invite.ensures
    ∙ ap (λ threads. set threads i (with_invitation c.args.region (get_or threads i c.thread-item.result))) c.loop-thread.invariant
    ∙ one_more c.args.region i _ c.thread-item.result c.loop-thread-test.true)

pub returns : goal.returns
returns c = all_of c.args.region c.args.size c.min-size.result c.loop-thread.thread-index c.args.threads.now c.loop-thread.thread-items c.min-size.ensures (omega arith) c.loop-thread.invariant
