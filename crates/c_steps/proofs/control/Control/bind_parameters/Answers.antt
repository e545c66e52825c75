use Rattle.c_steps.specs.Nodes.{part_at}
use Rattle.c_steps.proofs.Parameters.{under_way_first}
use Rattle.c_steps.proofs.control.Control.bind_parameters.Goals as goal

pub loop-parameter-init : goal.loop-parameter-init
loop-parameter-init c =
    let trees = c.args.code.now.trees in
    under_way_first c.args.code.now c.args.view c.args.caller (part_at trees c.args.call) (part_at trees c.args.parameters) c.args.self.now c.args.cells.now
    c.requires.caller c.requires.base c.requires.values c.requires.names c.requires.room
