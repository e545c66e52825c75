use Rattle.std.proofs.Common.{ap, arith}
use Rattle.c_syntax.specs.language.Numbered.{tree_at}
use Rattle.c_model.specs.Copies.{listed_variables}
use Rattle.c_steps.specs.ControlView.{ControlView, bound_in}
use Rattle.c_steps.proofs.OwnNames.{listed_count}
use Rattle.c_steps.proofs.control.Control.make_own.Goals as goal

pub make_loop_variable-requires-clause-free : goal.make_loop_variable-requires-clause-free
make_loop_variable-requires-clause-free c =
    let code = c.args.node.code.now in
    let listed = listed_variables (tree_at code.trees c.args.node.number) in
    omega (
      arith,
      ap ControlView.names_now c.make_listed.ensures.control,
      listed_count (bound_in code c.args.self.now c.args.cells.now) c.args.cells.now.cells listed,
      c.requires.names,
    )
