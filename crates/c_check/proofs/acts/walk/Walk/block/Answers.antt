use Rattle.std.proofs.Common.{refl, arith}
use Rattle.std.proofs.lemmas.Result.{on_ok_weaker}
use Rattle.c_check.specs.Tasks.{from_place}
use Rattle.c_check.proofs.Putting.{both, puts_as}
use Rattle.c_check.proofs.acts.walk.Walk.block.Goals as goal

pub returns : goal.returns
unfolding from_place
returns c =
    on_ok_weaker c.then-3.result
    (λ put trees within are.
    let close = c.in_ok-then.ensures trees tt are in
    let inner = c.in_ok-then-2.ensures trees within close.there in
    puts_as refl (omega arith) (both (both close inner) (put trees tt inner.there)))
    c.then-3.ensures
