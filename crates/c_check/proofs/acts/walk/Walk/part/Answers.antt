use Rattle.std.proofs.Common.{refl, arith}
use Rattle.std.proofs.lemmas.Result.{on_ok_weaker}
use Rattle.c_syntax.specs.language.Numbered.{tree_at}
use Rattle.c_check.proofs.Putting.{puts_as}
use Rattle.c_check.proofs.Weighing.{weight_is}
use Rattle.c_check.proofs.acts.walk.Walk.part.Goals as goal

pub returns-in-Some : goal.returns-in-Some
returns-in-Some c =
    let trees = c.args.tree.now.trees in
    on_ok_weaker c.then.result
    (λ put. rw (← c.in-Some.ensures.child)
    (puts_as refl (omega (arith, weight_is (tree_at trees c.in-Some.part))) (put trees (omega (arith, c.in-Some.ensures.before, c.requires.node)) c.requires.there)))
    c.then.ensures
