use Rattle.std.proofs.Common.{refl, arith}
use Rattle.std.proofs.lemmas.Result.{on_ok_weaker}
use Rattle.c_check.specs.Tasks.{from_place}
use Rattle.c_check.proofs.Putting.{both, puts_as}
use Rattle.c_check.proofs.acts.walk.Walk.return_.Goals as goal

pub returns : goal.returns
unfolding from_place
returns c =
    on_ok_weaker c.then-2.result
    (λ put.
    let trees = c.args.tree.now.trees in
    let last = c.in_ok-then.ensures trees tt c.requires.there in
    puts_as (rw c.returned_of-returned.ensures refl) (omega arith) (both last (put trees c.requires.node last.there)))
    c.then-2.ensures
