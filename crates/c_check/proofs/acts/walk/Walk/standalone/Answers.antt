use Rattle.std.proofs.lemmas.Result.{on_ok_weaker}
use Rattle.c_check.proofs.acts.walk.Walk.standalone.Goals as goal

pub returns-in-Barrier : goal.returns-in-Barrier
returns-in-Barrier c = on_ok_weaker c.then.result (λ put trees are. rw c.in-Barrier.is (put trees tt are)) c.then.ensures
