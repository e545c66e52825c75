use Rattle.std.proofs.Common.{◌∙◌, refl, sym, arith}
use Rattle.std.proofs.lemmas.Result.{on_ok_weaker}
use Rattle.c_syntax.specs.language.Tree.{children_of}
use Rattle.c_syntax.specs.language.Numbered.{tree_at}
use Rattle.c_check.specs.Tasks.{from_place}
use Rattle.c_check.proofs.Parts.{init_none, init_child}
use Rattle.c_check.proofs.Putting.{both, keep_as, puts_as}
use Rattle.c_check.proofs.Weighing.{weighs_child}
use Rattle.c_check.proofs.acts.walk.Walk.init.Goals as goal

pub returns-in_default : goal.returns-in_default
returns-in_default c =
    keep_as _ _ (init_none (children_of (tree_at c.args.tree.now.trees c.args.node)) c.in_default.ensures.child) c.requires.there

pub returns : goal.returns
unfolding from_place
returns c =
    let trees = c.args.tree.now.trees in
    let children = children_of (tree_at trees c.args.node) in
    let name = tree_at trees c.in-Some.name in
    on_ok_weaker c.then.result
    (λ put.
    let declared = c.in_ok-declare.ensures trees c.requires.there in
    puts_as
    (rw (c.name.ensures, c.spot.ensures) refl ∙ sym (init_child children name c.in-Some.ensures.child))
    (omega (arith, weighs_child children 0 1 name c.in-Some.ensures.child refl))
    (both declared (put trees c.requires.node declared.there)))
    c.then.ensures
