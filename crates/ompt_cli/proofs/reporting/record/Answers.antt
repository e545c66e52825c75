use Rattle.std.proofs.Common.{ℕ, ◌∙◌, List, ap, subst, sym}
use Rattle.run_trace.proofs.{Heard.few-records, Traces.traces_of_runs}
use Rattle.ompt_cli.specs.Names.{records_of, trace_with, fields_of, spelling, AreShared, Recording}
use Rattle.ompt_cli.proofs.Telling.{command-is, few-threads, guests-kept, some-threads, written-as}
use Rattle.ompt_cli.{specs.Commands.HasGuests, specs.Commands.HasWritten, specs.Commands.run_of, specs.Commands.unless_memory, proofs.Keeping.kept-shared, proofs.Written.ends-found}
use Rattle.ompt_cli.proofs.reporting.record.Goals as goal

pub write_trace_of_run-end-requires : goal.write_trace_of_run-end-requires
write_trace_of_run-end-requires g c =
    let report = c.in_ok-report.field-0.report in
    let has = c.in_ok-report.ensures.kept in
    let shared : AreShared (records_of (run_of report) report.history) c.deref.result.now = rw c.deref.ensures.value (kept-shared _ _ has.kept) in
    record { shared = (records_of (run_of report) report.history, shared, few-records (run_of report) report.history (some-threads c.args.job report has.observes) has.observes.to.legal) }

pub returns-clause-ran : goal.returns-clause-ran
returns-clause-ran g c =
    let report = c.in_ok-report.field-0.report in
    let has = c.in_ok-report.ensures.kept in
    let command = command-is c.args.job report has.observes ∙ c.requires.command in
    let shared : AreShared (records_of (run_of report) report.history) c.deref.result.now = rw c.deref.ensures.value (kept-shared _ _ has.kept) in record {
      observes = has.observes;
      stays = λ other. has.stays;
      ended = c.write_trace_of_run-end.ensures.end;
      memory = λ guests. absurd (subst HasGuests command guests);
      traced = λ whole memory is.
          let found = ends-found report.cause c.write_trace_of_run-end.result c.write_trace_of_run-end.ensures.end memory in
          let fits = c.write_trace_of_run-end.ensures.fits (records_of (run_of report) report.history) shared whole memory in
          traces_of_runs (run_of report) report.history report.cause (some-threads c.args.job report has.observes) (few-threads c.args.job report has.observes) has.stays.mask_is has.observes.to.legal
          (has.observes.to.ends found) fits.1 fits.0;
      certified = λ whole memory is. absurd cc;
      guests_are = guests-kept _ c.args.guests.items report (λ guests. subst HasGuests command guests) (ap (λ list. list.items) c.in_ok-report.ensures.guests);
      written =
          subst (λ (bytes : List ℕ). HasWritten c.write_trace_of_run-end.result (unless_memory report.cause bytes) (g.O.Sink.held c.args.out.now) (g.O.Sink.held c.write_trace_of_run-end.new.out))
          (ap (λ (callbacks : ℕ). spelling (fields_of (trace_with report.threads callbacks report.cause (records_of (run_of report) report.history)))) (sym has.stays.mask_is)
          ∙ written-as c.args.job report has.observes Recording c.requires.command)
          (c.write_trace_of_run-end.ensures.written (records_of (run_of report) report.history) shared);
      faults = c.write_trace_of_run-end.ensures.faults;
    }
