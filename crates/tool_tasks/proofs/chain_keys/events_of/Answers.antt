use Rattle.tool_tasks.proofs.chain_keys.events_of.Goals as goal
use Rattle.tool_tasks.proofs.Giving.{events_is, uncharged}

pub returns-in-Some : goal.returns-in-Some
returns-in-Some c = λ past holds unbroken. events_is c.args.nodes.now past c.args.task c.in-Some.node holds unbroken c.in-Some.ensures

pub returns-in-None : goal.returns-in-None
returns-in-None c = λ past holds unbroken. uncharged c.args.nodes.now past c.args.task holds unbroken c.in-None.ensures
