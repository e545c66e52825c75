use Rattle.trace_view.proofs.Onward.{stopped_at, took_more, when_ok}
use Rattle.trace_view.proofs.item_writer.ItemWriterTaker.take.Goals as goal

pub returns-clause-took : goal.returns-clause-took
returns-clause-took g c = when_ok c.put_item.result c.put_item.ensures.whole c.put_item.ensures.steady
    (λ wrote steady start items took first. took_more start.style c.args.self.now.style _ _ _ _ _ _ items c.args.item.now took steady wrote)

pub returns-clause-stopped : goal.returns-clause-stopped
returns-clause-stopped g c = λ stop is start items took first.
    stopped_at start.style c.args.self.now.style c.put_item.result stop _ _ _ _ _ _ items c.args.item.now is took c.put_item.ensures.ends
    c.put_item.ensures.write c.put_item.ensures.steady c.put_item.ensures.part
