use Rattle.std.proofs.Common.{sym, arith}
use Rattle.std.proofs.lemmas.Result.{on_ok_weaker}
use Rattle.c_syntax.specs.language.Tree.{children_of}
use Rattle.c_syntax.specs.language.Numbered.{tree_at}
use Rattle.c_check.proofs.Putting.{both, keep_as, puts_as}
use Rattle.c_check.proofs.Telling.{each_none, each_child}
use Rattle.c_check.proofs.Weighing.{weighs_child, weight_is}
use Rattle.c_check.proofs.acts.walk.Walk.each.Goals as goal

pub returns-in_default : goal.returns-in_default
returns-in_default c =
    keep_as _ _ (each_none (children_of (tree_at c.args.tree.now.trees c.args.node)) c.args.place c.in_default.ensures.child c.args.role) c.requires.there

pub returns : goal.returns
returns c =
    on_ok_weaker c.then-2.result
    (λ put.
    let rest = c.in_ok-then.ensures c.args.tree.now.trees c.requires.node c.requires.there in
    puts_as
    (sym (each_child (children_of (tree_at c.args.tree.now.trees c.args.node)) c.args.place c.in_ok-next_place.field-0 (tree_at c.args.tree.now.trees c.in-Some.child) c.in-Some.ensures.child c.in_ok-next_place.ensures.next c.args.role))
    (omega (arith, weighs_child (children_of (tree_at c.args.tree.now.trees c.args.node)) c.args.place c.in_ok-next_place.field-0 (tree_at c.args.tree.now.trees c.in-Some.child) c.in-Some.ensures.child c.in_ok-next_place.ensures.next, weight_is (tree_at c.args.tree.now.trees c.in-Some.child)))
    (both rest (put c.args.tree.now.trees (omega (arith, c.in-Some.ensures.before, c.requires.node)) rest.there)))
    c.then-2.ensures
