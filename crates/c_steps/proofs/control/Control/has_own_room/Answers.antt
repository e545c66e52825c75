use Rattle.std.proofs.Common.{ap, not, sym, rules}
use Rattle.c_syntax.specs.language.Numbered.{tree_at}
use Rattle.c_steps.specs.ControlView.{bound_in}
use Rattle.c_steps.proofs.Counting.{own_cells_fit, own_cells_full, own_cells_pass}
use Rattle.c_steps.proofs.control.Control.has_own_room.Goals as goal

pub returns-in-None : goal.returns-in-None
returns-in-None c =
    let code = c.args.node.code.now in
    let around = bound_in code c.args.self.now c.args.cells.now in
    ap not (sym (own_cells_pass code around (tree_at code.trees c.args.node.number) c.room.result (search rules) (search rules)))

pub returns-then-room-gt0 : goal.returns-then-room-gt0
returns-then-room-gt0 c =
    let code = c.args.node.code.now in
    let around = bound_in code c.args.self.now c.args.cells.now in
    rw (own_cells_fit code around (tree_at code.trees c.args.node.number) c.room.result (search rules) c.in-Some.room (search rules) c.if-room-gt0.true) (search rules)

pub returns-else-room-gt0 : goal.returns-else-room-gt0
returns-else-room-gt0 c =
    let code = c.args.node.code.now in
    let around = bound_in code c.args.self.now c.args.cells.now in
    rw (own_cells_full code around (tree_at code.trees c.args.node.number) c.room.result (search rules) c.in-Some.room (search rules) c.if-room-gt0.false) (search rules)
