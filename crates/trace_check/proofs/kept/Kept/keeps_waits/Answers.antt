use Rattle.std.proofs.Common.{◌≡◌, Some, None, sym, ◌∙◌}
use Rattle.trace_check.specs.Before.{joins, opened}
use Rattle.trace_check.specs.Brackets.{current_in}
use Rattle.trace_check.specs.Checking.{running}
use Rattle.trace_check.proofs.kept.Kept.keeps_waits.Goals as goal
use Rattle.trace_check.proofs.Entered.{none_runs, wait_ends, waiting_current}

pub returns-in-Some : goal.returns-in-Some
returns-in-Some c = λ past t known unbroken thread keeps.
    let w = c.in-SyncRegionWait in
    let run : running (joins past) (opened t past) ≡ Some c.in-Some.current = sym (c.current_of.ensures past t thread) ∙ c.in-Some.is in
    let runs : current_in (opened t past) ≡ Some w.task.identity = waiting_current past t w.task.identity w.kind w.endpoint _ unbroken c.if-endpoint-eq-END.true (rw w.is at keeps) in
    rw w.is (wait_ends t w.task.identity w.kind w.endpoint past c.in-Some.current c.may_end_wait.result c.if-endpoint-eq-END.true run runs (c.may_end_wait.ensures past t known unbroken run))

pub returns-in-None : goal.returns-in-None
returns-in-None c = λ past t known unbroken thread keeps.
    let w = c.in-SyncRegionWait in
    let run : running (joins past) (opened t past) ≡ None = sym (c.current_of.ensures past t thread) ∙ c.in-None.is in
    absurd (none_runs t w.task.identity past run (waiting_current past t w.task.identity w.kind w.endpoint _ unbroken c.if-endpoint-eq-END.true (rw w.is at keeps)))
