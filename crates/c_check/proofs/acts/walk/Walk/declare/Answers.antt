use Rattle.std.proofs.lemmas.Result.{on_ok_weaker}
use Rattle.c_check.proofs.acts.walk.Walk.declare.Goals as goal

pub returns : goal.returns
returns c = on_ok_weaker c.then.result (λ put trees are. put trees tt are) c.then.ensures
