use Rattle.std.proofs.Common.{◌≡◌, ◌++◌, List, length, reverse}
use Rattle.ompt_calls.specs.declared.event.EventRecord.{EventRecord}
use Rattle.trace_check.specs.Checking.{Unbroken}
use Rattle.tool_tasks.specs.Holding.{AreNodes}
use Rattle.tool_tasks.specs.Text.{lines_of, tasks_in_order}
use Rattle.tool_tasks.proofs.Orders.{pending_order, weight}
use Rattle.tool_tasks.proofs.text.put_trees.Given as goal

abbrev pub invariant-loop-task : goal.invariant-loop-task
invariant-loop-task l = (past : List EventRecord) → Unbroken past → AreNodes l.nodes past →
    l.text.items ++ lines_of past (pending_order past (reverse l.pending.items)) ≡ l.fn.text.items ++ lines_of past (tasks_in_order past)

abbrev pub decreases-loop-task : goal.decreases-loop-task
decreases-loop-task l = weight (length l.nodes) l.pending.items
