use Rattle.trace_check.proofs.kept.Kept.has_no_child.Goals as goal
use Rattle.trace_check.proofs.Counted.{no_child_is}

pub returns : goal.returns
returns c = λ past t known unbroken run. no_child_is past c.args.current.task c.children_of.result (c.children_of.ensures.counted past t known.things unbroken run)
