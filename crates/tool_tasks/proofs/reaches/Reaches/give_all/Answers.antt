use Rattle.tool_tasks.proofs.reaches.Reaches.give_all.Goals as goal
use Rattle.tool_tasks.proofs.Giving.{gives_all}

pub returns-clause-gives : goal.returns-clause-gives
returns-clause-gives c =
    gives_all c.args.self.now.bests c.give.new.self.bests c.give-2.new.self.bests c.give-3.new.self.bests c.give-4.new.self.bests c.args.next c.args.given c.args.reach.length
    c.in_ok-give.ensures.gives c.in_ok-give-2.ensures.gives c.in_ok-give-3.ensures.gives c.in_ok-give-4.ensures.gives

pub returns-clause-ends : goal.returns-clause-ends
returns-clause-ends c = λ links past holds next first second third.
    c.in_ok-give-4.ensures.ends links past (c.in_ok-give-3.ensures.ends links past (c.in_ok-give-2.ensures.ends links past (c.in_ok-give.ensures.ends links past holds next) first) second) third
