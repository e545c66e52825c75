use Rattle.std.proofs.Common.{ℕ, List, reverse}
use Rattle.ompt_calls.specs.declared.event.EventRecord.{EventRecord}
use Rattle.tool_tasks.specs.Holding.{IsForest}
use Rattle.trace_view.specs.Bold.{HasNumbers}
use Rattle.trace_view.proofs.Pictures.{HasLines}
use Rattle.trace_view.proofs.dot.put_tasks.Given as goal

abbrev pub invariant-loop-identity : goal.invariant-loop-identity
invariant-loop-identity l =
    (events : List EventRecord) (numbers : List ℕ) → IsForest l.forest events → HasNumbers l.bold numbers
    → HasLines (reverse events) numbers l.fn.text.items l.text.items l.identity
