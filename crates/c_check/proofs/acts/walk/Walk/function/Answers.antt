use Rattle.std.proofs.Common.{◌∙◌, refl, sym, arith}
use Rattle.std.proofs.lemmas.Result.{on_ok_weaker}
use Rattle.c_syntax.specs.language.Tree.{children_of}
use Rattle.c_syntax.specs.language.Numbered.{tree_at}
use Rattle.c_check.specs.Tasks.{from_place}
use Rattle.c_check.proofs.Parts.{function_none, function_one, function_two, function_all}
use Rattle.c_check.proofs.Putting.{both, keep_as, puts_as}
use Rattle.c_check.proofs.Weighing.{weighs_child, weight_children}
use Rattle.c_check.proofs.acts.walk.Walk.function.Goals as goal

pub returns-in_default : goal.returns-in_default
returns-in_default c =
    keep_as _ _ (function_none c.args.returns (children_of (tree_at c.args.tree.now.trees c.args.node)) c.in_default.ensures.child) c.requires.there

pub returns-in_default-child : goal.returns-in_default-child
returns-in_default-child c =
    keep_as _ _ (function_one c.args.returns (children_of (tree_at c.args.tree.now.trees c.args.node)) c.in_default-child.ensures.child) c.requires.there

pub returns-in_default-child-2 : goal.returns-in_default-child-2
returns-in_default-child-2 c =
    keep_as _ _ (function_two c.args.returns (children_of (tree_at c.args.tree.now.trees c.args.node)) c.in_default-child-2.ensures.child) c.requires.there

pub returns : goal.returns
unfolding from_place
returns c =
    let trees = c.args.tree.now.trees in
    let children = children_of (tree_at trees c.args.node) in
    let name = tree_at trees c.in-Some.name in
    let params = tree_at trees c.in-Some-child.params in
    let block = tree_at trees c.in-Some-child-2.block in
    on_ok_weaker c.then-4.result
    (λ put.
    let end = c.in_ok-then.ensures trees tt c.requires.there in
    let body = c.in_ok-then-2.ensures trees (omega (arith, c.in-Some-child-2.ensures.before, c.requires.node)) end.there in
    let named = c.in_ok-then-3.ensures trees (omega (arith, c.in-Some-child.ensures.before, c.requires.node)) body.there in
    puts_as
    (rw (c.name.ensures, c.spot.ensures, c.in_ok-count.ensures) refl ∙ sym (function_all c.args.returns children name params block c.in-Some.ensures.child c.in-Some-child.ensures.child c.in-Some-child-2.ensures.child))
    (omega (arith, weighs_child children 0 1 name c.in-Some.ensures.child refl, weighs_child children 1 2 params c.in-Some-child.ensures.child refl, weighs_child children 2 3 block c.in-Some-child-2.ensures.child refl, weight_children params, weight_children block))
    (both (both (both end body) named) (put trees tt named.there)))
    c.then-4.ensures
