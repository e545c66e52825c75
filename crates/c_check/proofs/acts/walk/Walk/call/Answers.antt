use Rattle.std.proofs.Common.{refl, arith}
use Rattle.std.proofs.lemmas.Result.{on_ok_weaker}
use Rattle.c_check.specs.Tasks.{from_place}
use Rattle.c_check.proofs.Putting.{both, puts_as}
use Rattle.c_check.proofs.acts.walk.Walk.call.Goals as goal

pub returns : goal.returns
unfolding from_place
returns c =
    on_ok_weaker c.then-2.result
    (λ put.
    let arguments = c.in_ok-then.ensures c.args.tree.now.trees c.requires.node c.requires.there in
    puts_as (rw (c.name-name.ensures, c.spot-spot.ensures, c.in_ok-count.ensures, c.value_of.ensures) refl) (omega arith) (both arguments (put c.args.tree.now.trees tt arguments.there)))
    c.then-2.ensures
