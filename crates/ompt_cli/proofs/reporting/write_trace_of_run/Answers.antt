use Rattle.std.proofs.Common.{◌≡◌, ◌≢◌, rules}
use Rattle.omp_model.specs.declared.cause.Cause.TheVariants as causes
use Rattle.ompt_cli.specs.declared.end.End.TheVariants as end
use Rattle.ompt_cli.{specs.Names.PROFILE_MASK, specs.Names.trace_with, proofs.Written.unless-found}
use Rattle.ompt_cli.proofs.reporting.write_trace_of_run.Goals as goal

pub returns-in-Ok-write_trace-clause-written : goal.returns-in-Ok-write_trace-clause-written
returns-in-Ok-write_trace-clause-written g c = λ events shared.
    let found : c.args.cause ≢ causes.Memory = search rules in
    let made : c.in-Some.trace ≡ trace_with c.args.threads PROFILE_MASK c.args.cause c.in-Ok.events.items = let same = c.in-Some.ensures.is found in cc in
    record {
      listed = λ whole kept. rw (unless-found c.args.cause _ found) (rw (made, c.in-Ok.ensures events shared) at c.in-Ok-write_trace.ensures.whole);
      part = λ same. let wrong : end.Ended c.args.cause ≡ end.WriteFault = same in cc;
      kept = λ same. let wrong : end.Ended c.args.cause ≡ end.Memory = same in cc;
    }
