use Rattle.std.proofs.Common.{◌∙◌, Err, ap, refl, sym}
use Rattle.ompt_cli.{specs.declared.end.End.End, specs.declared.end.End.TheVariants.Memory, proofs.Carrying.end_carried, proofs.Carrying.run_carried}
use Rattle.ompt_cli.proofs.commands.run_settings.Goals as goal

pub returns-in-Ok-run_command-clause-carried : goal.returns-in-Ok-run_command-clause-carried
returns-in-Ok-run_command-clause-carried g c = λ words taken.
    run_carried g.S.Source.left g.S.Source.faults g.O.Sink.held g.O.Sink.faults words c.args.settings taken _ c.in-Ok-run_command.ended.end c.in-Ok-run_command.ended.report _ _ c.args.source.now c.program_for.new.source c.args.out.now c.run_command.new.out
    c.in-Ok-run_command.ensures.ran refl c.in-Ok.ensures.loaded c.in-Ok.ensures.unread (c.program_for.ensures.steady (λ is. let same = sym c.in-Ok.is ∙ is in cc))

pub returns-in-Err-run_command-clause-carried : goal.returns-in-Err-run_command-clause-carried
returns-in-Err-run_command-clause-carried g c = λ words taken.
    rw (c.without_run-in-Err-run_command.ensures, c.in-Err-run_command.ensures.untouched)
    (end_carried g.S.Source.left g.S.Source.faults g.O.Sink.held g.O.Sink.faults words c.args.settings taken Memory c.args.source.now c.program_for.new.source c.args.out.now
    (record { before = tt; refused = λ why same. absurd cc; accepted = λ why has. tt; runs = λ program. tt })
    (record { rose = λ is. absurd cc; steady = λ other. c.program_for.ensures.steady (λ is. let same = sym c.in-Ok.is ∙ is in cc) })
    c.in-Ok.ensures.unread)

pub returns-in-Err-clause-carried : goal.returns-in-Err-clause-carried
returns-in-Err-clause-carried g c = λ words taken.
    rw c.without_run.ensures
    (end_carried g.S.Source.left g.S.Source.faults g.O.Sink.held g.O.Sink.faults words c.args.settings taken c.in-Err.end c.args.source.now c.program_for.new.source c.args.out.now
    c.in-Err.ensures.ended
    (record {
      rose = λ is. c.in-Err.ensures.read (ap (λ (told : End). Err told) is);
      steady = λ other. c.program_for.ensures.steady (λ wrong. other (let same = sym c.in-Err.is ∙ wrong in cc));
    })
    c.in-Err.ensures.unread)
