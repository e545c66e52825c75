use Rattle.c_check.proofs.Putting.{put}
use Rattle.c_check.proofs.acts.walk.Walk.then.Goals as goal

pub returns : goal.returns
returns c = λ trees is are. put trees c.args.task c.args.self.now (record { tasks = c.push.new.self }) c.in_ok-push.ensures.items is are
