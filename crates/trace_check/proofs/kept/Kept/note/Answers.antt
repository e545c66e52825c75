use Rattle.std.proofs.Common.{refl, ap}
use Rattle.std.proofs.lemmas.Result.{on_ok_weaker}
use Rattle.trace_check.specs.Before.{creation_of}
use Rattle.trace_check.proofs.kept.Kept.note.Goals as goal
use Rattle.trace_check.proofs.Unmoved.{acquired_things, released_things, staying_tells, things_same}

pub returns-in-TaskCreate-clause-learned : goal.returns-in-TaskCreate-clause-learned
returns-in-TaskCreate-clause-learned c = on_ok_weaker c.create.result
    (λ learns. learns c.args.event.now c.in-TaskCreate.task.identity (ap creation_of c.in-TaskCreate.is)) c.create.ensures.learned

pub returns-in_ok-insert-in-MutexAcquired-clause-learned : goal.returns-in_ok-insert-in-MutexAcquired-clause-learned
returns-in_ok-insert-in-MutexAcquired-clause-learned c = λ past runs known unbroken keeps.
    let w = c.in-MutexAcquired in
    acquired_things c.args.self.now c.insert.new.self past c.args.event.now w.kind w.wait_id w.codeptr w.is
    c.in_ok-insert-in-MutexAcquired.ensures.updates known

pub returns-in-MutexReleased-clause-learned : goal.returns-in-MutexReleased-clause-learned
returns-in-MutexReleased-clause-learned c = λ past runs known unbroken keeps.
    let w = c.in-MutexReleased in
    released_things c.args.self.now c.remove-holder.new.self past c.args.event.now w.kind w.wait_id w.codeptr w.is c.remove-holder.ensures.updates known

pub returns-in_default : goal.returns-in_default
returns-in_default c = record {
  threads = refl;
  brackets = refl;
  learned = λ past runs known unbroken keeps. things_same c.args.self.now past c.args.event.now
      (staying_tells c.args.event.now.call c.requires.stays c.in_default.not-TaskCreate c.in_default.not-MutexAcquired c.in_default.not-MutexReleased) known;
  unchanged = tt;
}
