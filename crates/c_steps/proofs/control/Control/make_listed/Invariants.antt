use Rattle.std.proofs.Common.{length, map}
use Rattle.c_syntax.specs.language.Numbered.{tree_at}
use Rattle.c_model.specs.Copies.{listed_variables}
use Rattle.c_steps.specs.ControlView.{bound_in}
use Rattle.c_steps.specs.ListedNames.{listed_from}
use Rattle.c_steps.specs.OwnCells.{listed_copy}
use Rattle.c_steps.proofs.OwnNames.{IsMaking}
use Rattle.c_steps.proofs.control.Control.make_listed.Given as goal

abbrev pub invariant-loop-found : goal.invariant-loop-found
invariant-loop-found l =
    let construct = tree_at l.node.code.now.trees l.node.number in
    let around = bound_in l.node.code.now l.initial.self l.initial.cells in
    IsMaking l.node.code.now around l.names l.count (map (listed_copy around) (listed_from construct l.place)) (map (listed_copy around) (listed_variables construct))
    l.initial.self l.self l.initial.cells l.cells

abbrev pub decreases-loop-found : goal.decreases-loop-found
decreases-loop-found l = length (listed_from (tree_at l.node.code.now.trees l.node.number) l.place)
