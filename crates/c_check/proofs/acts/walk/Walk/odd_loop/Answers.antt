use Rattle.std.proofs.lemmas.Result.{on_ok_weaker}
use Rattle.c_check.proofs.acts.walk.Walk.odd_loop.Goals as goal

pub returns-then-odd : goal.returns-then-odd
returns-then-odd c = on_ok_weaker c.then.result (λ put trees are. rw c.if-odd.true (put trees tt are)) c.then.ensures
