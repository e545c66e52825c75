use Rattle.std.specs.Map.Iter.{deref_pair}
use Rattle.std.proofs.lemmas.Map.Iter.{rest_all, rest_more}
use Rattle.trace_view.specs.WaitTallies.{line_of}
use Rattle.trace_view.proofs.Tables.{is_table, line_all, line_more}
use Rattle.trace_view.proofs.waits.table.Goals as goal

pub loop-key-preserved : goal.loop-key-preserved
loop-key-preserved c =
    line_more (line_of c.args.last) c.loop-key.text.items c.put_line.new.text.items _ c.loop-key.key-iterator c.next.new.self _
    (rest_more deref_pair c.loop-key.key-iterator c.next.new.self c.next.result (c.in-Some.key, c.in-Some.tally) c.in-Some.is c.next.ensures.steps)
    c.in_ok-put_line.ensures c.loop-key.invariant

pub returns : goal.returns
returns c =
    is_table c.args.tallies.now c.args.last c.loop-key.text.items c.into_iter-key-iterator.ensures.into_iter_gives.5
    (line_all (line_of c.args.last) c.loop-key.text.items _ c.loop-key.key-iterator
    (rest_all deref_pair c.loop-key.key-iterator c.next.new.self c.next.result c.in-None.is c.next.ensures.steps) c.loop-key.invariant)
