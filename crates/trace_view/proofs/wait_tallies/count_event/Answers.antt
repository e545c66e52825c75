use Rattle.trace_view.proofs.Counting.{counts_none, counts_told}
use Rattle.trace_view.proofs.wait_tallies.count_event.Goals as goal

pub returns-in-Some : goal.returns-in-Some
returns-in-Some c =
    counts_told c.count_end.result c.args.tallies.now c.count_end.new.tallies c.in-Some.wait c.args.event.now.thread c.args.event.now.seq _
    c.in-Some.ensures c.count_end.ensures

pub returns-in-None : goal.returns-in-None
returns-in-None c = counts_none c.args.tallies.now c.args.event.now.thread c.args.event.now.seq _ c.in-None.ensures
