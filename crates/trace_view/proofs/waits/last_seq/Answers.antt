use Rattle.trace_view.proofs.Tables.{last_is, none_last}
use Rattle.trace_view.proofs.waits.last_seq.Goals as goal

pub returns-in-Some : goal.returns-in-Some
returns-in-Some c = last_is c.args.events.now _ c.in-Some.ensures.value

pub returns-in-None : goal.returns-in-None
returns-in-None c = none_last c.args.events.now c.in-None.ensures.value
