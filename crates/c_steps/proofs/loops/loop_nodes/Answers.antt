use Rattle.c_syntax.specs.language.Numbered.{tree_at}
use Rattle.c_check.specs.SharedLoops.{loop_at}
use Rattle.c_steps.proofs.Iterating.{loop_goes_on}
use Rattle.c_steps.proofs.loops.loop_nodes.Goals as goal

pub returns-in-Some-clause-there : goal.returns-in-Some-clause-there
returns-in-Some-clause-there c = c.nodes_of.ensures.there c.args.construct.code.now.trees c.args.construct.number c.in-Some.ensures.before c.args.construct.there

pub returns-in-Some-clause-goes_on : goal.returns-in-Some-clause-goes_on
returns-in-Some-clause-goes_on c =
    let trees = c.program.result.now.trees in
    rw (c.nodes_of.ensures.comparison, c.nodes_of.ensures.step)
    (loop_goes_on (tree_at trees c.args.construct.number) (loop_at trees c.in-Some.found) c.in-Some.ensures.parts)
