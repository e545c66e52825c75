use Rattle.std.proofs.Common.{sym}
use Rattle.tool_tasks.proofs.stacks.Stacks.take.Goals as goal
use Rattle.tool_tasks.proofs.Frames.{pushed}

pub returns-in_ok-push-in-Push-clause-taken : goal.returns-in_ok-push-in-Push-clause-taken
returns-in_ok-push-in-Push-clause-taken c = λ past holds.
    pushed c.args.self.now c.push.new.self past c.args.event.now c.in-Push.task c.in_ok-push-in-Push.ensures.frames c.in_ok-push-in-Push.ensures.tops c.push.ensures.fits (sym c.in-Push.ensures) holds
