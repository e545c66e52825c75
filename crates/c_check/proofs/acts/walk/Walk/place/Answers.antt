use Rattle.std.proofs.Common.{refl, arith}
use Rattle.std.proofs.lemmas.Result.{on_ok_weaker}
use Rattle.c_check.specs.Tasks.{from_place}
use Rattle.c_check.proofs.Putting.{both, puts_as}
use Rattle.c_check.proofs.acts.walk.Walk.place.Goals as goal

pub returns : goal.returns
unfolding from_place
returns c =
    on_ok_weaker c.then-2.result
    (λ put.
    let trees = c.args.tree.now.trees in
    let index = c.in_ok-then.ensures trees c.requires.node c.requires.there in
    let assigned = c.in_ok-assigned.ensures trees index.there in
    puts_as (rw (c.name-name.ensures, c.spot-spot.ensures, c.place_usage-usage.ensures) refl) (omega arith) (both (both index assigned) (put trees tt assigned.there)))
    c.then-2.ensures
