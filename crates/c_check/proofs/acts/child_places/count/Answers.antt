use Rattle.std.proofs.Common.{sym, ◌∙◌, arith}
use Rattle.c_syntax.specs.language.Tree.{children_of}
use Rattle.c_syntax.specs.language.Numbered.{tree_at}
use Rattle.c_check.specs.Tasks.{from_place}
use Rattle.c_check.proofs.Behind.{count_child, count_none}
use Rattle.c_check.proofs.acts.child_places.count.Goals as goal

pub loop-place-init : goal.loop-place-init
unfolding from_place
loop-place-init c = omega arith

pub loop-place-smaller : goal.loop-place-smaller
loop-place-smaller c =
    omega (arith, count_child c.args.tree.now.trees (children_of (tree_at c.args.tree.now.trees c.args.node)) c.loop-place.place c.in_ok-place.place c.child.result c.child.ensures.child (sym c.is_some.ensures ∙ c.loop-place-test.true) c.in_ok-place.ensures.next)

pub loop-place-preserved : goal.loop-place-preserved
loop-place-preserved c =
    omega (arith, count_child c.args.tree.now.trees (children_of (tree_at c.args.tree.now.trees c.args.node)) c.loop-place.place c.in_ok-place.place c.child.result c.child.ensures.child (sym c.is_some.ensures ∙ c.loop-place-test.true) c.in_ok-place.ensures.next, c.in_ok-place.ensures.next)

pub returns : goal.returns
returns c =
    omega (arith, count_none c.args.tree.now.trees (children_of (tree_at c.args.tree.now.trees c.args.node)) c.loop-place.place c.child.result c.child.ensures.child (sym c.is_some.ensures ∙ c.loop-place-test.false))
