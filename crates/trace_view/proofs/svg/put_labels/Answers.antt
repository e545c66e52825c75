use Rattle.std.proofs.Common.{arith}
use Rattle.trace_view.specs.Svg.{thread_label}
use Rattle.trace_view.proofs.Ranges.{added}
use Rattle.trace_view.proofs.svg.put_labels.Goals as goal

pub loop-thread-preserved : goal.loop-thread-preserved
loop-thread-preserved c =
    added thread_label 0 c.loop-thread.thread c.loop-thread.thread c.args.text.now.items c.loop-thread.text.items c.put_label.new.text.items (omega arith)
    c.loop-thread.invariant c.in_ok-put_label.ensures
