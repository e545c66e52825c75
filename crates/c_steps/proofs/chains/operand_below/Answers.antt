use Rattle.c_syntax.specs.language.Numbered.{tree_at}
use Rattle.c_steps.proofs.LeftOperands.{next_below}
use Rattle.c_steps.proofs.chains.operand_below.Goals as goal

pub unreachable-requires : goal.unreachable-requires
unreachable-requires c =
    let trees = c.args.tree.now.trees in
    let next = next_below c.args.levels c.loop-level._level (tree_at trees c.args.node) (tree_at trees c.loop-level.below) c.requires.chain c.loop-level-test.true c.loop-level.invariant.operand in
    let none = rw c.in-None.is at c.child.ensures.child in
    cc
