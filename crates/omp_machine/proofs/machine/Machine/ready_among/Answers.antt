use Rattle.std.proofs.Common.{Some, ap, ◌∙◌, sym}
use Rattle.omp_model.specs.Gates.{arrival}
use Rattle.omp_machine.proofs.Searching.{among-found, among-next, among-none}
use Rattle.omp_machine.proofs.machine.Machine.ready_among.Goals as goal

pub returns-in-Some-clause-thread : goal.returns-in-Some-clause-thread
returns-in-Some-clause-thread c =
    ap Some c.in-Some.ensures.thread
    ∙ sym (c.loop-thread.invariant ∙ among-found c.args.self.now.state c.loop-thread.thread c.args.end c.loop-thread-test.true c.in-Some.ensures.enabled)

pub returns-in-Some-clause-arrival : goal.returns-in-Some-clause-arrival
returns-in-Some-clause-arrival c =
    c.in-Some.ensures.arrival ∙ ap (arrival c.args.self.now.state.world) (sym c.in-Some.ensures.thread)

pub loop-thread-preserved : goal.loop-thread-preserved
loop-thread-preserved c =
    c.loop-thread.invariant ∙ among-next c.args.self.now.state c.loop-thread.thread c.args.end c.loop-thread-test.true c.in-None.ensures.enabled

pub returns-clause-thread : goal.returns-clause-thread
returns-clause-thread c =
    sym (c.loop-thread.invariant ∙ among-none c.args.self.now.state c.loop-thread.thread c.args.end c.loop-thread-test.false)
