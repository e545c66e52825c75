use Rattle.std.proofs.lemmas.Result.{on_ok_weaker}
use Rattle.c_check.proofs.acts.walk.Walk.looped.Goals as goal

pub returns-in-Looped : goal.returns-in-Looped
returns-in-Looped c = on_ok_weaker c.then.result (λ put trees are. rw c.in-Looped.is (put trees tt are)) c.then.ensures
