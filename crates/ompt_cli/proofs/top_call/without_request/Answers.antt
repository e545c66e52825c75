use Rattle.std.proofs.Common.{inl, inr, refl}
use Rattle.ompt_cli.specs.declared.end.End.TheVariants.{Memory, Usage}
use Rattle.ompt_cli.proofs.Carrying.{refused_carried, shown_carried}
use Rattle.ompt_cli.proofs.top_call.without_request.Goals as goal

pub returns-in-Usage-clause-carried : goal.returns-in-Usage-clause-carried
returns-in-Usage-clause-carried g c = λ words faulty.
    rw c.without_run.ensures (refused_carried g.S.Source.left g.S.Source.faults g.O.Sink.held g.O.Sink.faults words c.args.fault faulty Usage c.args._source.now c.args.out.now (inl (c.in-Usage.is, refl)))

pub returns-in-Memory-clause-carried : goal.returns-in-Memory-clause-carried
returns-in-Memory-clause-carried g c = λ words faulty.
    rw c.without_run-in-Memory.ensures (refused_carried g.S.Source.left g.S.Source.faults g.O.Sink.held g.O.Sink.faults words c.args.fault faulty Memory c.args._source.now c.args.out.now (inr (c.in-Memory.is, refl)))

pub returns-in-Shown-clause-carried : goal.returns-in-Shown-clause-carried
returns-in-Shown-clause-carried g c = λ words faulty.
    shown_carried g.S.Source.left g.S.Source.faults g.O.Sink.held g.O.Sink.faults words c.args.fault faulty c.in-Shown.text c.show.result c.args._source.now c.args.out.now c.show.new.out c.in-Shown.is c.show.ensures.end
    (rw c.deref.ensures at c.show.ensures.written) c.show.ensures.faults
