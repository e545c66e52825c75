use Rattle.std.proofs.Common.{sym, ◌∙◌}
use Rattle.c_syntax.specs.language.Numbered.{tree_at}
use Rattle.c_check.proofs.Looking.{stands_named, looked-first, there-first, there-node, looked-over, there-over, looked-named, looked-child, there-child, lighter-child}
use Rattle.c_check.proofs.acts.shared_loops.stands_in.Goals as goal

pub returns-then-is_named : goal.returns-then-is_named
returns-then-is_named c =
    sym (stands_named c.args.name (tree_at c.args.tree.now.trees c.args.expression) (sym c.is_named.ensures ∙ c.if-is_named.true))

pub loop-node-init : goal.loop-node-init
loop-node-init c = record {
  left = looked-first c.args.tree.now.trees c.args.name c.args.expression c.push.new.self.items c.new-left.result.items c.new-left.ensures.items c.in_ok-push.ensures.items (sym c.is_named.ensures ∙ c.if-is_named.false);
  there = there-first c.args.tree.now.trees c.args.name c.args.expression c.push.new.self.items c.new-left.result.items c.new-left.ensures.items c.in_ok-push.ensures.items c.requires;
}

pub child-requires : goal.child-requires
child-requires c =
    there-node c.args.tree.now.trees c.args.name c.loop-node.left.items c.pop.new.self.items c.in-Some.node c.in-Some.place c.in-Some.ensures.items c.loop-node.invariant.there

pub loop-node-preserved-in_default-child : goal.loop-node-preserved-in_default-child
loop-node-preserved-in_default-child c = record {
  left = looked-over c.args.tree.now.trees c.args.name c.loop-node.left.items c.pop.new.self.items c.in-Some.node c.in-Some.place c.in-Some.ensures.items c.in_default-child.ensures.child ∙ c.loop-node.invariant.left;
  there = there-over c.args.tree.now.trees c.args.name c.loop-node.left.items c.pop.new.self.items c.in-Some.node c.in-Some.place c.in-Some.ensures.items c.loop-node.invariant.there;
}

pub returns-then-is_named-2 : goal.returns-then-is_named-2
returns-then-is_named-2 c =
    sym (looked-named c.args.tree.now.trees c.args.name c.loop-node.left.items c.pop.new.self.items c.in-Some.node c.in-Some.place c.in-Some.ensures.items c.in-Some-child.child c.in-Some-child.ensures.child (sym c.is_named-in-Some.ensures ∙ c.if-is_named-2.true))
    ∙ c.loop-node.invariant.left

pub loop-node-smaller : goal.loop-node-smaller
loop-node-smaller c =
    lighter-child c.args.tree.now.trees c.args.name c.loop-node.left.items c.pop.new.self.items c.in-Some.node c.in-Some.place c.in-Some.ensures.items c.in-Some-child.child c.in-Some-child.ensures.child c.in_ok-next_place.field-0 c.push-in-Some.new.self.items c.push-in-Some-2.new.self.items c.in_ok-next_place.ensures.next c.in_ok-push-2.ensures.items c.in_ok-push-3.ensures.items

pub loop-node-preserved : goal.loop-node-preserved
loop-node-preserved c = record {
  left = looked-child c.args.tree.now.trees c.args.name c.loop-node.left.items c.pop.new.self.items c.in-Some.node c.in-Some.place c.in-Some.ensures.items c.in-Some-child.child c.in-Some-child.ensures.child c.in_ok-next_place.field-0 c.push-in-Some.new.self.items c.push-in-Some-2.new.self.items c.in_ok-next_place.ensures.next c.in_ok-push-2.ensures.items c.in_ok-push-3.ensures.items (sym c.is_named-in-Some.ensures ∙ c.if-is_named-2.false) ∙ c.loop-node.invariant.left;
  there = there-child c.args.tree.now.trees c.args.name c.loop-node.left.items c.pop.new.self.items c.in-Some.node c.in-Some.place c.in-Some.ensures.items c.in-Some-child.child c.in-Some-child.ensures.child c.in_ok-next_place.field-0 c.push-in-Some.new.self.items c.push-in-Some-2.new.self.items c.in_ok-next_place.ensures.next c.in_ok-push-2.ensures.items c.in_ok-push-3.ensures.items c.in-Some-child.ensures.before c.loop-node.invariant.there;
}
