use Rattle.std.proofs.Common.{◌∙◌}
use Rattle.thread_run.proofs.Driving.{come-gone}
use Rattle.thread_run.proofs.driver.visit.Goals as goal

pub returns-in-Ok-Told-clause-goes : goal.returns-in-Ok-Told-clause-goes
returns-in-Ok-Told-clause-goes g c =
    let go = c.go.ensures in record {
      thread = c.serve.ensures.thread ∙ go.thread;
      driven = λ whose driven.
          let came = come-gone _ _ _ _ _ _ _ c.go.result c.legal.ensures.below go.over go.ok go.memory go.ended driven in
          c.serve.ensures.driven whose (rw (c.in-Ok-Told.is, c.in-Ok-Told.field-0-is) at came).1;
    }

pub returns-in-Ok-Quiet-clause-goes : goal.returns-in-Ok-Quiet-clause-goes
returns-in-Ok-Quiet-clause-goes g c =
    let go = c.go.ensures in record {
      thread = go.thread;
      driven = λ whose driven. rw (c.in-Ok-Quiet.is, c.in-Ok-Quiet.field-0-is) at
          (come-gone _ _ _ _ _ _ _ c.go.result c.legal.ensures.below go.over go.ok go.memory go.ended driven);
    }

pub returns-in-Ok-NotYet-clause-goes : goal.returns-in-Ok-NotYet-clause-goes
returns-in-Ok-NotYet-clause-goes g c =
    let go = c.go.ensures in record {
      thread = go.thread;
      driven = λ whose driven. rw (c.in-Ok-NotYet.is, c.in-Ok-NotYet.field-0-is) at
          (come-gone _ _ _ _ _ _ _ c.go.result c.legal.ensures.below go.over go.ok go.memory go.ended driven);
    }

pub returns-in-Ok-Ended-clause-goes : goal.returns-in-Ok-Ended-clause-goes
returns-in-Ok-Ended-clause-goes g c =
    let go = c.go.ensures in record {
      thread = go.thread;
      driven = λ whose driven. rw (c.in-Ok-Ended.is, c.in-Ok-Ended.field-0-is) at
          (come-gone _ _ _ _ _ _ _ c.go.result c.legal.ensures.below go.over go.ok go.memory go.ended driven);
    }

pub returns-in-Err-clause-goes : goal.returns-in-Err-clause-goes
returns-in-Err-clause-goes g c =
    let go = c.go.ensures in record {
      thread = c.end_memory.ensures.thread ∙ go.thread;
      driven = λ whose driven.
          let came = come-gone _ _ _ _ _ _ _ c.go.result c.legal.ensures.below go.over go.ok go.memory go.ended driven in
          (rw c.in-Err.is at came) c.end_memory.new.pass c.end_memory.ensures.seen c.end_memory.ensures.ended;
    }
