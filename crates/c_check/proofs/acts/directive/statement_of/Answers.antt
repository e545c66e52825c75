use Rattle.std.proofs.Common.{◌+◌, refl, sym, ◌∙◌, arith}
use Rattle.c_syntax.specs.language.Tree.{children_of}
use Rattle.c_syntax.specs.language.Numbered.{tree_at}
use Rattle.c_check.specs.Tasks.{from_place}
use Rattle.c_check.proofs.Behind.{count_found, count_here, statement_none, statement_here, statement_behind}
use Rattle.c_check.proofs.acts.directive.statement_of.Goals as goal

pub loop-child-init : goal.loop-child-init
unfolding from_place
loop-child-init c = record { statement = refl; counted = omega arith }

pub returns-then-not-is_head-clause-statement : goal.returns-then-not-is_head-clause-statement
returns-then-not-is_head-clause-statement c =
    sym (statement_here c.args.tree.now.trees (children_of (tree_at c.args.tree.now.trees c.args.node)) c.loop-child.place c.in-Some.child c.in-Some.ensures.child (cc))
    ∙ c.loop-child.invariant.statement

pub loop-child-smaller : goal.loop-child-smaller
loop-child-smaller c =
    count_found c.args.tree.now.trees (children_of (tree_at c.args.tree.now.trees c.args.node)) c.loop-child.place (c.loop-child.place + 1) c.in-Some.child c.in-Some.ensures.child refl

pub loop-child-preserved : goal.loop-child-preserved
loop-child-preserved c = record {
  statement = statement_behind c.args.tree.now.trees (children_of (tree_at c.args.tree.now.trees c.args.node)) c.loop-child.place (c.loop-child.place + 1) c.in-Some.child c.in-Some.ensures.child refl (cc) ∙ c.loop-child.invariant.statement;
  counted = omega (arith, count_here c.args.tree.now.trees (children_of (tree_at c.args.tree.now.trees c.args.node)) c.loop-child.place (c.loop-child.place + 1) c.in-Some.child c.in-Some.ensures.child refl, c.loop-child.invariant.counted);
}

pub returns-clause-statement : goal.returns-clause-statement
returns-clause-statement c =
    sym (statement_none c.args.tree.now.trees (children_of (tree_at c.args.tree.now.trees c.args.node)) c.loop-child.place c.in_default.ensures.child)
    ∙ c.loop-child.invariant.statement
