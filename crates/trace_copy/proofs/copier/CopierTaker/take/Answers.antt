use Rattle.std.proofs.Common.{◌≡◌, ◌∙◌, ap, rules, Err}
use Rattle.std.proofs.lemmas.Result.{err_from_is_err_and}
use Rattle.trace_copy.proofs.Onward.{last_kept, last_now, stopped_at, took_more}
use Rattle.trace_copy.proofs.copier.CopierTaker.take.Goals as goal

pub returns-in_err-put_item-clause-stopped : goal.returns-in_err-put_item-clause-stopped
returns-in_err-put_item-clause-stopped g c =
    λ stop is start items took first.
    let p = err_from_is_err_and c.from_residual.result c.from_residual.ensures.1 in
    let e : c.in_err-put_item.field-0.0 ≡ stop = cc in
    stopped_at start.form _ stop _ _ _ start.end _ _ _ _ items c.args.item.now took (c.in_err-put_item.ensures.ends stop (ap Err e))
    (λ second memory. c.in_err-put_item.ensures.memory second (ap Err (e ∙ memory))) (λ failed. c.in_err-put_item.ensures.write (ap Err (e ∙ failed)))
    (λ other. c.in_err-put_item.ensures.steady (λ failed. other (cc))) c.in_err-put_item.ensures.part

pub returns-in-End-clause-took : goal.returns-in-End-clause-took
returns-in-End-clause-took g c =
    λ start items took first.
    let steady : g.O.Sink.faults c.put_item.new.out ≡ g.O.Sink.faults c.args.self.now.out.now = search rules in
    took_more start.form _ _ _ _ start.end _ _ _ _ _ items c.args.item.now took (last_now c.args.self.now.end c.args.item.now c.in-End.mark c.in-End.is)
    steady c.in_ok-put_item.ensures.whole

pub returns-in_default-clause-took : goal.returns-in_default-clause-took
returns-in_default-clause-took g c =
    λ start items took first.
    let steady : g.O.Sink.faults c.put_item.new.out ≡ g.O.Sink.faults c.args.self.now.out.now = search rules in
    took_more start.form _ _ _ _ start.end _ _ _ _ _ items c.args.item.now took (last_kept c.args.self.now.end c.args.item.now c.in_default.not-End)
    steady c.in_ok-put_item.ensures.whole
