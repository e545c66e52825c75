use Rattle.tool_tasks.proofs.stacks.Stacks.new.Goals as goal
use Rattle.tool_tasks.proofs.Frames.{zeros}

pub returns : goal.returns
returns c = λ t. zeros 256 t
