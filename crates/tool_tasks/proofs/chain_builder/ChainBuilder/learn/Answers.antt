use Rattle.std.proofs.Common.{subst, sym}
use Rattle.tool_tasks.specs.declared.chain_tasks.ChainTasks.{ChainTasks}
use Rattle.tool_tasks.specs.Holding.{HoldsTasks}
use Rattle.tool_tasks.proofs.chain_builder.ChainBuilder.learn.Goals as goal

pub returns : goal.returns
returns c = λ past chains charged nodes unbroken keeps. record {
  tasks = c.in_ok-learn.ensures past (subst (λ (tasks : ChainTasks). HoldsTasks tasks past) (sym c.charge.ensures.tasks) chains.tasks);
  reaches = c.in_ok-charge.ensures.reaches past chains charged nodes unbroken keeps;
}
