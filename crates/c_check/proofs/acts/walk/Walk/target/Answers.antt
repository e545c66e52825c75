use Rattle.std.proofs.Common.{refl, sym, arith}
use Rattle.std.proofs.lemmas.Result.{on_ok_weaker}
use Rattle.c_syntax.specs.language.Tree.{children_of}
use Rattle.c_syntax.specs.language.Numbered.{tree_at}
use Rattle.c_check.specs.Tasks.{from_place}
use Rattle.c_check.proofs.Parts.{target_none, target_child}
use Rattle.c_check.proofs.Putting.{both, keep_as, puts_as}
use Rattle.c_check.proofs.Weighing.{weighs_child, weight_is}
use Rattle.c_check.proofs.acts.walk.Walk.target.Goals as goal

pub returns-in_default : goal.returns-in_default
returns-in_default c =
    keep_as _ _ (target_none c.args.role (children_of (tree_at c.args.tree.now.trees c.args.node)) c.in_default.ensures.child) c.requires.there

pub returns : goal.returns
unfolding from_place
returns c =
    let trees = c.args.tree.now.trees in
    let children = children_of (tree_at trees c.args.node) in
    let place = tree_at trees c.in-Some.place in
    on_ok_weaker c.then-2.result
    (λ put.
    let rest = c.in_ok-then.ensures trees c.requires.node c.requires.there in
    puts_as
    (sym (target_child c.args.role children place c.in-Some.ensures.child))
    (omega (arith, weighs_child children 0 1 place c.in-Some.ensures.child refl, weight_is place))
    (both rest (put trees (omega (arith, c.in-Some.ensures.before, c.requires.node)) rest.there)))
    c.then-2.ensures
