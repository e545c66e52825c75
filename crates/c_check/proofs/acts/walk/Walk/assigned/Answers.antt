use Rattle.std.proofs.lemmas.Result.{on_ok_weaker}
use Rattle.c_check.proofs.acts.walk.Walk.assigned.Goals as goal

pub returns-in-Target-Plain : goal.returns-in-Target-Plain
returns-in-Target-Plain c = on_ok_weaker c.then.result (λ put trees are. rw (c.in-Target-Plain.is-0, c.in-Target-Plain.is-1) (put trees tt are)) c.then.ensures
