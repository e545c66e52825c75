use Rattle.std.proofs.Common.{ℕ, ◌≢◌, ◌≤◌, ◌∙◌, List, ap, inl, inr, length, refl, subst, sym}
use Rattle.run_trace.proofs.Counted.{few-entries}
use Rattle.history_file.{specs.Fields.fields_of, specs.Fields.spelling, proofs.OfRuns.threads_named}
use Rattle.omp_model.specs.declared.cause.Cause.TheVariants as causes
use Rattle.ompt_cli.proofs.Written.{file-is, filed, filed-text}
use Rattle.ompt_cli.{specs.Names.HistoryFile, specs.Names.FitsFile, specs.Commands.EndsAs, specs.Commands.HasWritten, specs.Commands.run_of, proofs.Telling.few-threads, proofs.Telling.some-threads}
use Rattle.ompt_cli.proofs.run.write_history_of_run.Goals as goal

pub write_file-end-requires : goal.write_file-end-requires
write_file-end-requires g c =
    let report = c.args.report in
    let (job, observes) = c.requires.observes in record {
      threads = threads_named (run_of report) report.history (some-threads job report observes) (few-threads job report observes) observes.to.legal;
      text = subst (λ (text : List ℕ). length text ≤ 65536) (sym observes.text_is ∙ c.requires.text) job.short;
      count = few-entries (run_of report) report.history observes.to.legal;
    }

pub returns : goal.returns
returns g c =
    let report = c.args.report in
    let wrote = c.write_file-end.ensures in
    let found : report.cause ≢ causes.Memory = λ none. let other = sym c.in-Some.is ∙ c.end_of.ensures.none none in cc in
    let same = file-is report c.args.text c.end_of.result c.in-Some.status c.in-Some.detail c.requires.text c.in-Some.is (c.end_of.ensures.is found) in record {
      report = refl;
      end = elim wrote.end [ inl is ↦ subst (EndsAs report.cause) (sym is) (refl, found) | inr is ↦ subst (EndsAs report.cause) (sym is) found ];
      memory = λ other is. elim wrote.end [ inl ended ↦ cc | inr lost ↦ cc ];
      written =
          subst (λ (bytes : List ℕ). HasWritten c.write_file-end.result bytes (g.O.Sink.held c.args.out.now) (g.O.Sink.held c.write_file-end.new.out))
          (ap (λ (file : HistoryFile). spelling (fields_of file)) same ∙ filed-text report c.requires.command found) wrote.written;
      certified = λ whole memory. filed report c.requires.observes.0 c.requires.observes.1 found (subst FitsFile same (wrote.fits whole)) c.end_of.ensures.fits;
      faults = wrote.faults;
    }
